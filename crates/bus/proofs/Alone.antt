-- What a packet and a timeout leave alone of the records: a turn is placed in one record, and the wait that ends writes event 0. Assumes nothing.
use Prim.Native.Nat.{ℕ, ◌<◌}
use native.Mathlib.Omega.{arith}
use mathlib.Core.Path.{◌≡◌, refl, sym, ◌∙◌, ap, subst}
use mathlib.Core.Logic.{◌≢◌, ◌⊎◌, inl, inr}
use mathlib.Core.Bool.{Bool, true, false}
use mathlib.Core.List.{List}
use Rattle.std.specs.Prelude.{Some}
use Rattle.laws.proofs.Bools.{dec_eq}
use lib.ListN.{length}
use Rattle.wire.specs.Data.{verdict_of, payload_of}
use Rattle.state.specs.declared.RecordEvent.TheVariants.{WaitEnded}
use Rattle.state.specs.declared.Record.{Record}
use Rattle.state.specs.declared.Stage.{Stage}
use Rattle.state.specs.declared.Wait.{Wait}
use Rattle.state.specs.declared.Wait.TheVariants.{Nothing, Data, Acknowledge}
use Rattle.state.specs.declared.Core.{Core}
use Rattle.state.specs.Update.{with_events, noted, with_wait, record_at, with_record}
use Rattle.state.specs.Sound.{WaitSound, wait_record, Sound}
use Rattle.state.proofs.Updates.{record_given, other_record}
use Rattle.bus.specs.declared.turn.Turn.{Turn}
use Rattle.bus.specs.declared.turn.Step.{Step}
use Rattle.bus.specs.Turn.{placed}
use Rattle.bus.specs.Active.{acknowledged}
use Rattle.bus.specs.Tokens.{turn_of}
use Rattle.bus.specs.Data.{data_turn}
use Rattle.bus.specs.Arrival.{is_data_first, is_ack, met_at, served_at, WaitsOn, awaited, data_step, missed, run_out, timed_out, packet_step}
use Rattle.bus.specs.Idle.{meeting, no_wait}
use Rattle.bus.proofs.Cases.{no_wait_by, packet_by}
use Rattle.bus.proofs.KeepsSound.{timeout_sound}

-- another record stays where a turn is placed
elsewhere : (core : Core) (i j : ℕ) (t : Turn) → j ≢ i → record_at (placed core i t).core j ≡ record_at core j
elsewhere core i j t n = other_record core i j t.after n

-- ---- the wait that ends

abbrev pub event_zero : Record → Record
event_zero r = with_events r (noted r.events WaitEnded)

-- a record that is not waited on stays, and one that is gets event 0
abbrev pub Ended : Core → ℕ → Record → Type 0
Ended core j q = (q ≡ record_at core j) ⊎ (WaitsOn core.wait j × (q ≡ event_zero (record_at core j)))

module _ (core : Core) (w : Sound core) (j : ℕ) where
  missed_at : (i : ℕ) → i < 16 → (i ≡ j → WaitsOn core.wait j) → Ended core j (record_at (missed core i) j)
  unfolding missed
  missed_at i h on = pick (dec_eq j i)
    where
      pick : Dec (j ≡ i) → Ended core j (record_at (with_wait (with_record core i (event_zero (record_at core i))) Nothing) j)
      pick (yes e) = inr (on (sym e), ap (record_at (with_record core i (event_zero (record_at core i)))) e ∙ record_given core i _ (omega (arith, h, w.sixteen)) ∙ ap (λ (k : ℕ). event_zero (record_at core k)) (sym e))
      pick (no n) = inl (other_record core i j _ n)

  pub timeout_alone : Ended core j (record_at (timed_out core) j)
  unfolding timed_out
  timeout_alone = go core.wait w.wait_sound refl
    where
      go : (v : Wait) → WaitSound core v → core.wait ≡ v → Ended core j (record_at (run_out v core) j)
      go Nothing s e = inl refl
      go (Data i stage) s e = missed_at i s.0 (λ f. rw e f)
      go (Acknowledge i buffer sent) s e = missed_at i s.0 (λ f. rw e f)

  -- ---- the timeout, exactly

  pub timeout_nothing : core.wait ≡ Nothing → timed_out core ≡ core
  unfolding timed_out
  timeout_nothing e = ap (λ (v : Wait). run_out v core) e

  pub timeout_ends : (i : ℕ) → wait_record core.wait ≡ i → (core.wait ≡ Nothing → ⊥) → timed_out core ≡ with_wait (with_record core i (event_zero (record_at core i))) Nothing
  unfolding timed_out missed
  timeout_ends i at some = go core.wait refl at
    where
      go : (v : Wait) → core.wait ≡ v → wait_record v ≡ i → run_out v core ≡ with_wait (with_record core i (event_zero (record_at core i))) Nothing
      go Nothing e f = absurd (some e)
      go (Data k stage) e f = ap (missed core) f
      go (Acknowledge k buffer sent) e f = ap (missed core) f

  -- ---- the record that is served is one

  other_idle : (p : List ℕ) → (met_at (meeting core p) ≡ Some j → ⊥) → record_at (no_wait core p).core j ≡ record_at core j
  other_idle p n =
      no_wait_by core p (λ (x : Step). record_at x.core j ≡ record_at core j) w
      (record {
        quiet = refl;
        trouble = λ event. refl;
        frame = λ k. refl;
        token = λ a i e v. elsewhere core i j (turn_of a i (record_at core i)) (λ f. n (ap met_at e ∙ ap Some (sym f)));
      })

module _ (core : Core) (p : List ℕ) where
  served_data : (i : ℕ) (stage : Stage) → core.wait ≡ Data i stage → is_data_first p ≡ true → served_at core p ≡ Some i
  unfolding served_at
  served_data i stage e d = rw (e, d)

  served_ack : (i : ℕ) (buffer : Bool) (sent : ℕ) → core.wait ≡ Acknowledge i buffer sent → is_ack p ≡ true → served_at core p ≡ Some i
  unfolding served_at
  served_ack i buffer sent e a = rw (e, a)

  served_idle : awaited core.wait p ≡ false → served_at core p ≡ met_at (meeting (timed_out core) p)
  unfolding served_at
  served_idle e = rw e

pub others : (core : Core) → Sound core → (p : List ℕ) (j : ℕ) → (served_at core p ≡ Some j → ⊥) → Ended core j (record_at (packet_step core p).core j)
unfolding data_step
others core w p j n =
    packet_by core p (λ (x : Step). Ended core j (record_at x.core j)) w
    (record {
      awaited_data = λ i s e d x. inl (elsewhere core i j (data_turn core.speed s (record_at core i) (verdict_of p) (length (payload_of p))) (λ f. n (served_data core p i s e d ∙ ap Some (sym f))));
      awaited_ack = λ i b k e a x. inl (elsewhere core i j (acknowledged (record_at core i) b k) (λ f. n (served_ack core p i b k e a ∙ ap Some (sym f))));
      idle = λ e. subst (Ended core j) (sym (other_idle (timed_out core) (timeout_sound core w) j p (λ f. n (served_idle core p e ∙ f)))) (timeout_alone core w j);
    })

-- ---- M, address and speed

pub record Device (core other : Core) : Type 0 where
  pub memory_size : other.memory_size ≡ core.memory_size
  pub same_address : other.address ≡ core.address
  pub same_speed : other.speed ≡ core.speed

still : (core : Core) → Device core core
still core = record { memory_size = refl; same_address = refl; same_speed = refl }

timeout_device : (core : Core) → Device core (timed_out core)
unfolding timed_out missed
timeout_device core = go core.wait
  where
    go : (v : Wait) → Device core (run_out v core)
    go Nothing = still core
    go (Data i stage) = record { memory_size = refl; same_address = refl; same_speed = refl }
    go (Acknowledge i buffer sent) = record { memory_size = refl; same_address = refl; same_speed = refl }

-- no packet changes them
pub device_kept : (core : Core) → Sound core → (p : List ℕ) → Device core (packet_step core p).core
unfolding data_step
device_kept core w p =
    packet_by core p (λ (x : Step). Device core x.core) w
    (record {
      awaited_data = λ i s e d x. record { memory_size = refl; same_address = refl; same_speed = refl };
      awaited_ack = λ i b k e a x. record { memory_size = refl; same_address = refl; same_speed = refl };
      idle = λ e. idle (timed_out core) (timeout_device core) (timeout_sound core w);
    })
  where
    idle : (c : Core) → Device core c → Sound c → Device core (no_wait c p).core
    idle c d u =
        no_wait_by c p (λ (x : Step). Device core x.core) u
        (record {
          quiet = d;
          trouble = λ event. record { memory_size = d.memory_size; same_address = d.same_address; same_speed = d.same_speed };
          frame = λ n. d;
          token = λ a i m v. record { memory_size = d.memory_size; same_address = d.same_address; same_speed = d.same_speed };
        })
