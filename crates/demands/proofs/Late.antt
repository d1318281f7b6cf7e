-- The timeout ends the wait and leaves of the endpoint's record all but events. Assumes nothing.
use Prim.Native.Nat.{ℕ}
use mathlib.Core.Path.{◌≡◌, refl, ap, subst}
use mathlib.Core.Logic.{inl, inr}
use mathlib.Core.Bool.{true, false}
use Rattle.state.specs.declared.Wait.{Wait}
use Rattle.state.specs.declared.Wait.TheVariants as wait
use Rattle.state.specs.declared.Core.{Core}
use Rattle.state.specs.Update.{record_at}
use Rattle.state.specs.Sound.{Sound}
use Rattle.bus.specs.Arrival.{missed, run_out, timed_out}
use Rattle.bus.proofs.Alone.{Ended, timeout_alone}
use Rattle.bus.proofs.KeepsSound.{timeout_sound}
use Rattle.demands.specs.Behaviour.{Lent, Timeout, the_core}
use Rattle.demands.specs.Demand2.{lends}
use Rattle.demands.specs.Host.{Setting, waits_for_data}
use Rattle.demands.specs.Demand3.{Plays}
use Rattle.demands.proofs.Spared.{Noted, Quiet, plays_quiet}
use Rattle.demands.proofs.BusCalls.{timeout_core}

module _ (core : Core) where
  abbrev Past : Core → Type 0
  Past c = (c.address ≡ core.address) × (c.wait ≡ wait.Nothing)

  ended : Past (timed_out core)
  unfolding timed_out missed
  ended = go core.wait refl
    where
      go : (v : Wait) → core.wait ≡ v → Past (run_out v core)
      go wait.Nothing e = (refl, e)
      go (wait.Data i s) e = (refl, refl)
      go (wait.Acknowledge i b n) e = (refl, refl)

  pub timeout_waits_not : (timed_out core).wait ≡ wait.Nothing
  timeout_waits_not = ended.1

  pub timeout_quiet : Sound core → (i : ℕ) → Quiet i core (timed_out core)
  timeout_quiet w i = record { same_address = ended.0; only_events = go (timeout_alone core w i) }
    where
      go : Ended core i (record_at (timed_out core) i) → Noted (record_at core i) (record_at (timed_out core) i)
      go (inl e) = ((record_at core i).events, e)
      go (inr x) = (_, x.1)

module _ (s : Setting) (core : Core) (plays : Plays s core) where
  pub still_plays : Plays s (timed_out core)
  still_plays = plays_quiet s core (timed_out core) plays (timeout_sound core plays.sound) (timeout_quiet core plays.sound s.index)

  -- the record is left alone, and no data are awaited
  abbrev Closed : Core → Type 0
  Closed c = Quiet s.index core c × (waits_for_data c.wait ≡ false)

  pub late_closes : (lent : Lent) → lends core lent ≡ true → Closed (the_core core lent Timeout).core
  late_closes lent l =
      subst Closed (timeout_core core lent plays.sound l) (timeout_quiet core plays.sound s.index, ap waits_for_data (timeout_waits_not core))
