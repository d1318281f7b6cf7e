-- A firmware call that spares the endpoint or is refused stores nothing in its record and keeps the wait, and an active buffer that is waited on. Assumes nothing.
use Prim.Native.Nat.{ℕ, ◌<◌}
use native.Mathlib.Omega.{arith}
use mathlib.Core.Path.{◌≡◌, refl, sym, ◌∙◌, ap, subst}
use mathlib.Core.Bool.{Bool, true, false, not, ◌&&◌, ◌||◌, cond, true≢false, false≢true}
use mathlib.Core.List.{List, []}
use lib.Dec.{eqb}
use lib.ListN.{length}
use borrow.Author.Tests.{eqb-true, eqb-false, not-true}
use Rattle.laws.proofs.Bools.{both, dec_eq}
use Rattle.laws.proofs.First.{Passed}
use Rattle.refusals.specs.declared.Refusal.{Refusal}
use Rattle.refusals.specs.Refusals.{judged}
use Rattle.state.specs.declared.Descriptor.{Descriptor}
use Rattle.state.specs.declared.Descriptor.TheVariants.{Unallocated, Armed}
use Rattle.state.specs.declared.Speed.TheVariants.{Full}
use Rattle.state.specs.declared.Record.{Record}
use Rattle.state.specs.declared.Core.{Core}
use Rattle.state.specs.declared.Outcome as state
use Rattle.state.specs.Update.{no_events, no_system_events, started, with_events, with_buffer, with_address, with_system_events, record_at, with_record}
use Rattle.state.proofs.Updates.{record_given}
use Rattle.firmware.specs.Answers.{settled}
use Rattle.firmware.specs.Device.{address_tests, set_address_of, sound_tests, system_events_of}
use Rattle.firmware.specs.Records.{waits_on, index_tests, configure_tests, configure_of, halt_tests, set_halt_of, clear_halt_of, record_events_of}
use Rattle.firmware.specs.Buffers.{is_second, arm_tests, arm_of, disarm_tests, disarm_of}
use Rattle.firmware.proofs.Refusals.{settled_by}
use Rattle.bus.specs.declared.active.Direction.TheVariants.{Out}
use Rattle.bus.specs.Active.{chosen, active}
use Rattle.demands.specs.Behaviour.{Lent, Call, Start, Configure, Arm, Disarm, SetHalt, ClearHalt, SetAddress, BusReset, RecordEvents, SystemEvents, Packet, Timeout, Side, Anew, ByFirmware, OnBus, side_of, is_anew, is_by_firmware, refusal, the_core}
use Rattle.demands.specs.Host.{grew, Setting, World}
use Rattle.demands.specs.Demand3.{Plays, spares, is_firmware, permits}
use Rattle.demands.proofs.Rules.{refused_keeps}
use Rattle.demands.proofs.Spared.{Spared, Noted, as_it_was, noted_spared, Quiet, quiet_same, within, quiet_placed}
use Rattle.demands.proofs.Rearmed.{armed_anew, disarmed, buffer_spared, arm_active}

pub record Untouched (i : ℕ) (core core' : Core) : Type 0 where
  pub same_address : core'.address ≡ core.address
  pub same_wait : core'.wait ≡ core.wait
  pub spared : Spared (record_at core i) (record_at core' i)
  pub still_active : waits_on core.wait i ≡ true → active Out (record_at core i) ≡ true → active Out (record_at core' i) ≡ true

-- events do not matter to the choice
pub noted_active : (r q : Record) → Noted r q → active Out q ≡ active Out r
unfolding active chosen
noted_active r q n = ap (active Out) n.1

module _ (i : ℕ) where
  quiet_untouched : (core core' : Core) → Quiet i core core' → core'.wait ≡ core.wait → Untouched i core core'
  quiet_untouched core core' q e =
      record {
        same_address = q.same_address;
        same_wait = e;
        spared = noted_spared _ _ q.only_events;
        still_active = λ v a. noted_active _ _ q.only_events ∙ a;
      }

  same : (core : Core) → Untouched i core core
  same core = quiet_untouched core core (quiet_same i core) refl

-- ---- the calls that spare the endpoint

module _ (s : Setting) (core : Core) (plays : Plays s core) where
  abbrev i : ℕ
  i = s.index

  noted_at : (j : ℕ) (q : Record) → (j ≡ i → Noted (record_at core j) q) → Untouched i core (with_record core j q)
  noted_at j q f = quiet_untouched i core (with_record core j q) (quiet_placed s core plays j q core.wait f) refl

  elsewhere : (j : ℕ) (q : Record) → not (eqb j i) ≡ true → Untouched i core (with_record core j q)
  elsewhere j q n = noted_at j q (λ e. absurd (eqb-false j i (not-true (eqb j i) n) e))

  buffer_given : (j : ℕ) (second : Bool) (d : Descriptor) → ((old : Descriptor) → grew old d ≡ false) → (waits_on core.wait j ≡ true → active Out (record_at core j) ≡ true → active Out (with_buffer (record_at core j) second d) ≡ true) → Untouched i core (with_record core j (with_buffer (record_at core j) second d))
  buffer_given j second d f g = pick (dec_eq j i)
    where
      q : Record
      q = with_buffer (record_at core j) second d

      here : j < length core.records → Untouched j core (with_record core j q)
      here h =
          record {
            same_address = refl;
            same_wait = refl;
            spared = subst (Spared (record_at core j)) (sym (record_given core j q h)) (buffer_spared (record_at core j) second d f);
            still_active = λ v a. ap (active Out) (record_given core j q h) ∙ g v a;
          }

      pick : Dec (j ≡ i) → Untouched i core (with_record core j q)
      pick (yes e) = subst (λ (k : ℕ). Untouched k core (with_record core j q)) e (here (omega (arith, within s core plays, e)))
      pick (no n) = noted_at j q (λ e. absurd (n e))

  -- a call that is not refused gives the state after it, any other the state before it
  settled_untouched : (tests : List (Bool × Refusal)) (after : Core) (number : ℕ) → (Passed tests → Untouched i core after) → Untouched i core (settled (judged tests) core after number).core
  unfolding settled
  settled_untouched tests after number f = settled_by (λ (o : state.Outcome ℕ). Untouched i core o.core) tests core after number f (λ why. same i core)

  spares_it : (lent : Lent) (c : Call) → spares s c ≡ true → Untouched i core (the_core core lent c).core
  unfolding configure_of arm_of disarm_of set_halt_of clear_halt_of set_address_of record_events_of system_events_of
  spares_it lent (Start M speed) e = absurd (false≢true e)
  spares_it lent (Configure j condition x) e = settled_untouched (configure_tests core j condition x) _ 0 (λ p. elsewhere j _ e)
  spares_it lent (Arm j buffer base size) e =
      settled_untouched (arm_tests core j buffer base size) _ 0
      (λ p. buffer_given j (is_second buffer) (Armed base size 0 false) (armed_anew base size) (λ v a. arm_active (record_at core j) (is_second buffer) base size p.1.1.1.1.0 a))
  spares_it lent (Disarm j buffer) e =
      settled_untouched (disarm_tests core j buffer) _ _
      (λ p. buffer_given j (is_second buffer) Unallocated disarmed (λ v a. absurd (true≢false (sym v ∙ p.1.1.0))))
  spares_it lent (SetHalt j) e = settled_untouched (halt_tests core j) _ 0 (λ p. elsewhere j _ e)
  spares_it lent (ClearHalt j) e = settled_untouched (halt_tests core j) _ 0 (λ p. elsewhere j _ e)
  spares_it lent (SetAddress address) e =
      settled_untouched (address_tests core address) _ 0
      (λ p. quiet_untouched i core (with_address core address) (record { same_address = eqb-true address s.address e ∙ sym plays.same_address; only_events = as_it_was (record_at core i) }) refl)
  spares_it lent (BusReset speed) e = absurd (false≢true e)
  spares_it lent (RecordEvents j) e = settled_untouched (index_tests core j []) _ _ (λ p. noted_at j (with_events (record_at core j) no_events) (λ f. (no_events, refl)))
  spares_it lent SystemEvents e =
      settled_untouched (sound_tests core) _ _
      (λ p. quiet_untouched i core (with_system_events core no_system_events) (record { same_address = refl; only_events = as_it_was (record_at core i) }) refl)
  spares_it lent (Packet p) e = absurd (false≢true e)
  spares_it lent Timeout e = absurd (false≢true e)

-- ---- the calls that are refused

stands : (x : Side) (started core : Core) → is_by_firmware x ≡ true → cond (is_anew x) started core ≡ core
stands Anew started core e = absurd (false≢true e)
stands ByFirmware started core e = refl
stands OnBus started core e = absurd (false≢true e)

refused_same : (core : Core) (lent : Lent) (c : Call) → is_firmware c ≡ true → (refusal (the_core core lent c).answer ≡ 0 → ⊥) → (the_core core lent c).core ≡ core
refused_same core lent c e n = (refused_keeps core lent c n).0 ∙ stands (side_of c) (started 0 Full) core e

pub permitted : (s : Setting) (w : World) → Plays s w.core → (lent : Lent) (c : Call) → permits the_core s w lent c ≡ true → Untouched s.index w.core (the_core w.core lent c).core
permitted s w plays lent c = pick (spares s c) refl
  where
    answered : ℕ
    answered = refusal (the_core w.core lent c).answer

    pick : (b : Bool) → spares s c ≡ b → (b || is_firmware c && not (eqb answered 0)) ≡ true → Untouched s.index w.core (the_core w.core lent c).core
    pick true e x = spares_it s w.core plays lent c e
    pick false e x =
        let p = both (is_firmware c) (not (eqb answered 0)) x in
        subst (Untouched s.index w.core) (sym (refused_same w.core lent c p.0 (eqb-false answered 0 (not-true (eqb answered 0) p.1)))) (same s.index w.core)
