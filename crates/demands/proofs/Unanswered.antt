-- A packet that fails its check, and the host's data packet while no data are awaited, are met with silence. Assumes nothing.
use Prim.Native.Nat.{ℕ}
use mathlib.Core.Path.{◌≡◌, refl, sym, ◌∙◌, ap}
use mathlib.Core.Bool.{Bool, true, false, true≢false}
use mathlib.Core.List.{List}
use lib.ListN.{length}
use Rattle.std.specs.Prelude.{Option, is_some}
use Rattle.wire.specs.declared.pid.Kind.{Kind}
use Rattle.wire.specs.Pid.{number, kind_of, pid_of, pid_byte}
use Rattle.wire.specs.Data.{packet, verdict_of, payload_of}
use Rattle.state.specs.declared.Stage.{Stage}
use Rattle.state.specs.declared.Wait.TheVariants as wait
use Rattle.state.specs.declared.Core.{Core}
use Rattle.state.specs.Update.{record_at}
use Rattle.state.specs.Sound.{Sound}
use Rattle.bus.specs.declared.idle.Met as idle
use Rattle.bus.specs.declared.idle.Met.TheVariants as met
use Rattle.bus.specs.declared.turn.Says.{Says}
use Rattle.bus.specs.declared.turn.Says.TheVariants.{Silence}
use Rattle.bus.specs.declared.turn.Step.{Step}
use Rattle.bus.specs.Turn.{stored, said}
use Rattle.bus.specs.Active.{acknowledged}
use Rattle.bus.specs.Data.{data_turn}
use Rattle.bus.specs.Idle.{meeting, met_by, no_wait}
use Rattle.bus.specs.Arrival.{data_step, timed_out, packet_step}
use Rattle.bus.proofs.KeepsSound.{timeout_sound}
use Rattle.bus.proofs.Cases.{kind_of_toggle, packet_by}
use Rattle.demands.specs.Behaviour.{Lent, Packet, Outcome, heard, the_core}
use Rattle.demands.specs.Demand2.{lends, is_acceptance}
use Rattle.demands.specs.Host.{Setting, odd, data_packet, is_our_token, opens, fails, waits_for_data}
use Rattle.demands.specs.Demand3.{Plays}
use Rattle.demands.proofs.Spared.{Quiet}
use Rattle.demands.proofs.HostPackets.{data_not_ours, data_opens_none, Failing, failing, verdict_not_good}
use Rattle.demands.proofs.Asked.{Asked, asked}
use Rattle.demands.proofs.BusCalls.{packet_brings, heard_said}
use Rattle.demands.proofs.OtherPackets.{other_calm}

-- nothing is stored, no data are awaited, and the answer is an acceptance or not
pub record Unstored (s : Setting) (core : Core) (accepted : Bool) (o : Outcome) : Type 0 where
  pub quiet : Quiet s.index core o.core
  pub ended : waits_for_data o.core.wait ≡ false
  pub answer : is_acceptance (heard o) ≡ accepted

-- no token and no frame
abbrev Unmet : idle.Met → Type 0
Unmet met.Nothing = Unit {0}
Unmet (met.Trouble event) = Unit {0}
Unmet (met.Frame n) = ⊥
Unmet (met.Token a i) = ⊥

failing_unmet : (s : Setting) (core : Core) → Sound core → (p : List ℕ) → Failing s p → Unmet (meeting core p)
failing_unmet s core w p f = go (meeting core p) (asked core w p)
  where
    go : (m : idle.Met) → Asked core p m → Unmet m
    go met.Nothing x = tt
    go (met.Trouble event) x = tt
    go (met.Frame n) x = true≢false (sym x.1 ∙ f.no_token)
    go (met.Token a i) x = true≢false (sym (ap is_some x.its_token) ∙ f.no_token)

data_unmet : (core : Core) (toggle : Bool) (payload : List ℕ) → Unmet (meeting core (packet (number (kind_of_toggle toggle)) payload))
unfolding meeting packet pid_of pid_byte kind_of
data_unmet core true payload = tt
data_unmet core false payload = tt

-- where data are awaited, the packet is no good data packet
abbrev Unread : Core → List ℕ → Type 0
Unread core p = (i : ℕ) (x : Stage) → core.wait ≡ wait.Data i x → is_some (verdict_of p) ≡ false

silent : (core : Core) → Sound core → (p : List ℕ) → Unmet (meeting (timed_out core) p) → Unread core p → (packet_step core p).says ≡ Silence
unfolding data_step acknowledged no_wait
silent core w p u g =
    packet_by core p (λ (x : Step). x.says ≡ Silence) w
    (record {
      awaited_data = λ i x e d v. ap (λ (y : Option Kind). (data_turn core.speed x (record_at core i) y (length (payload_of p))).says) (verdict_not_good (verdict_of p) (g i x e));
      awaited_ack = λ i b k e a v. refl;
      idle = λ e. go (meeting (timed_out core) p) u;
    })
  where
    go : (m : idle.Met) → Unmet m → (met_by (timed_out core) m).says ≡ Silence
    go met.Nothing x = refl
    go (met.Trouble event) x = refl
    go (met.Frame n) x = absurd x
    go (met.Token a i) x = absurd x

module _ (s : Setting) (core : Core) (plays : Plays s core) (lent : Lent) (l : lends core lent ≡ true) where
  unanswered : (p : List ℕ) → is_our_token s p ≡ false → opens s p ≡ false → Unmet (meeting (timed_out core) p) → Unread core p → Unstored s core false (the_core core lent (Packet p))
  unanswered p n o u g =
      let c = other_calm s core plays p lent l n (g s.index) in
      record {
        quiet = c.quiet;
        ended = c.waits.1 o;
        answer = ap (λ (x : Outcome). is_acceptance (heard x)) (packet_brings core lent plays.sound l p) ∙ ap is_acceptance (heard_said (packet_step core p) (payload_of p) lent ∙ ap (λ (x : Says). said x (stored (packet_step core p).store (payload_of p) lent.memory)) (silent core plays.sound p u g));
      }

  pub damaged : (p : List ℕ) → fails p ≡ true → Unstored s core false (the_core core lent (Packet p))
  damaged p e =
      let f = failing s p e in
      unanswered p f.not_ours f.opens_none (failing_unmet s (timed_out core) (timeout_sound core plays.sound) p f) (λ i x q. f.not_good)

  pub stray : waits_for_data core.wait ≡ false → (k : ℕ) → Unstored s core false (the_core core lent (Packet (data_packet s k)))
  stray v k =
      unanswered (data_packet s k) (data_not_ours s (odd k) _) (data_opens_none s (odd k) _) (data_unmet (timed_out core) (odd k) _)
      (λ i x e. absurd (true≢false (sym (ap waits_for_data e) ∙ v)))
