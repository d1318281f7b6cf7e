-- While the marked buffer is allocated nothing is counted to the other: it is not the one that document 01 chooses, nor the one that an acknowledge wait
-- names. Assumes nothing.
use Prim.Native.Nat.{ℕ}
use native.Mathlib.Omega.{arith}
use mathlib.Core.Path.{◌≡◌, refl, ◌∙◌, ap}
use mathlib.Core.Bool.{Bool, true, false, not, ◌&&◌, ◌||◌, cond, beq}
use mathlib.Core.List.{List}
use lib.Dec.{eqb}
use lib.ListN.{length}
use borrow.Author.Tests.{eqb-true}
use Rattle.std.specs.Prelude.{Result, Ok, Err}
use Rattle.std.proofs.lemmas.Bool.{and_left, and_right}
use Rattle.refusals.specs.declared.Refusal.{Refusal}
use Rattle.wire.specs.Data.{verdict_of, payload_of}
use Rattle.state.specs.declared.Wait.{Wait}
use Rattle.state.specs.declared.Wait.TheVariants as wait
use Rattle.state.specs.declared.Record.{Record}
use Rattle.state.specs.declared.Core.{Core}
use Rattle.state.specs.Update.{buffer_of, record_at}
use Rattle.state.specs.Ranges.{is_control, is_armed}
use Rattle.state.specs.Sound.{sender, WaitSound}
use Rattle.bus.specs.declared.active.Direction.TheVariants.{Out}
use Rattle.bus.specs.Active.{chosen}
use Rattle.bus.specs.Arrival.{is_ack}
use Rattle.bus.specs.Calls.{lend_refusal}
use Rattle.demands.specs.Behaviour.{Packet, Outcome, heard, the_core}
use Rattle.demands.specs.Demand2.{is_acceptance, MarkCase}
use Rattle.demands.specs.History.{is_good_as, expected}
use Rattle.demands.proofs.BusCalls.{call_refused}
use Rattle.demands.proofs.Counts.{done_in}
use Rattle.demands.proofs.Gains.{gained, packet_gains}

other_is_not : (b : Bool) → beq (not b) b ≡ false
other_is_not true = refl
other_is_not false = refl

module _ (core : Core) (i : ℕ) (not_control : is_control (record_at core i).endpoint.kind ≡ false) (allocated : is_armed (buffer_of (record_at core i) (record_at core i).next) ≡ true) where
  abbrev r : Record
  r = record_at core i

  marked_chosen : chosen Out r ≡ r.next
  unfolding chosen
  marked_chosen = rw (not_control, allocated)

  marked_sends : sender r ≡ r.next
  marked_sends = ap (λ (b : Bool). b || r.next) not_control

  nothing_gained : (v : Wait) → WaitSound core v → (p answered : List ℕ) → gained i (not r.next) core v p answered ≡ 0
  nothing_gained wait.Nothing w p answered = refl
  nothing_gained (wait.Data j s) w p answered =
      let good = is_good_as (expected s r) (verdict_of p) in
      let f = and_left _ (is_acceptance answered) (and_left _ good (and_right (eqb j i) _ (ap (beq (not r.next)) marked_chosen ∙ other_is_not r.next))) in
      ap (λ (b : Bool). cond b (length (payload_of p)) 0) f
  nothing_gained (wait.Acknowledge j buffer sent) w p answered = pick (eqb j i) refl
    where
      pick : (b : Bool) → eqb j i ≡ b → cond (b && beq (not r.next) buffer && is_ack p) sent 0 ≡ 0
      pick true e =
          let same = w.1.sent_from ∙ ap (λ (x : ℕ). sender (record_at core x)) (eqb-true j i e) ∙ marked_sends in
          ap (λ (b : Bool). cond (b && is_ack p) sent 0) (ap (beq (not r.next)) same ∙ other_is_not r.next)
      pick false e = refl

pub mark_case : MarkCase the_core
mark_case core lent i p w c a = pick (lend_refusal core lent.memory lent.reply) refl
  where
    pick : (r : Result Unit Refusal) → lend_refusal core lent.memory lent.reply ≡ r → done_in (the_core core lent (Packet p)).core i (not (record_at core i).next) ≡ done_in core i (not (record_at core i).next)
    pick (Ok done) z =
        omega (
          arith,
          packet_gains core w lent p i (not (record_at core i).next) z,
          nothing_gained core i c a core.wait w.wait_sound p (heard (the_core core lent (Packet p))),
        )
    pick (Err why) e = ap (λ (x : Outcome). done_in x.core i (not (record_at core i).next)) (call_refused core lent p why e)
