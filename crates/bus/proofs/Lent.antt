-- A bus call is refused, or it is given a sound state, all its memory and room for a reply. Assumes nothing.
use Prim.Native.Nat.{ℕ, ◌≤◌}
use mathlib.Core.Path.{◌≡◌, refl, sym, ◌∙◌, ap, subst}
use mathlib.Core.Bool.{Bool, not}
use mathlib.Core.List.{List, [], ◌∷◌}
use lib.Dec.{eqb, ltb}
use lib.ListN.{length}
use borrow.Author.Tests.{ltb-false, eqb-true, not-false}
use Rattle.std.specs.Prelude.{Result, Ok, Err}
use Rattle.refusals.specs.declared.Refusal.{Refusal}
use Rattle.refusals.specs.declared.Refusal.TheVariants.{NotSound, MemoryNotM, ReplyTooShort}
use Rattle.refusals.specs.Refusals.{judged}
use Rattle.refusals.proofs.Judging.{judged_passed}
use Rattle.wire.specs.Data.{payload_of}
use Rattle.state.specs.declared.Core.{Core}
use Rattle.state.specs.declared.Outcome.{Outcome}
use Rattle.state.specs.Sound.{Sound, is_sound}
use Rattle.state.proofs.Tested.{tested}
use Rattle.bus.specs.declared.Answer.{Answer}
use Rattle.bus.specs.declared.Answer.TheVariants.{Silent}
use Rattle.bus.specs.declared.turn.Step.{Step}
use Rattle.bus.specs.Turn.{stored, said, laid}
use Rattle.bus.specs.Answers.{answer_of}
use Rattle.bus.specs.Arrival.{packet_step, timed_out}
use Rattle.bus.specs.Calls.{lend_tests, lend_refusal, refused, kept, carried, Left, packet_of, timeout_of, Leaves}

pub record Lent (core : Core) (memory reply : List ℕ) : Type 0 where
  pub sound : Sound core
  pub whole : length memory ≡ core.memory_size
  pub room : 1027 ≤ length reply

module _ (core : Core) (memory reply : List ℕ) where
  -- the refusal by a verdict on the core that was given
  pub lend_is : (x y : Result Unit Refusal) (b : Bool) → x ≡ judged ((not b, NotSound) ∷ (not (eqb (length memory) core.memory_size), MemoryNotM) ∷ (ltb (length reply) 1027, ReplyTooShort) ∷ []) → b ≡ is_sound core → x ≡ y → lend_refusal core memory reply ≡ y
  lend_is x y b e s f =
      ap (λ (z : Bool). judged ((not z, NotSound) ∷ (not (eqb (length memory) core.memory_size), MemoryNotM) ∷ (ltb (length reply) 1027, ReplyTooShort) ∷ [])) (sym s) ∙ sym e ∙ f

  pub lent : lend_refusal core memory reply ≡ Ok tt → Lent core memory reply
  lent e =
      let p = judged_passed (lend_tests core (length memory) (length reply)) e in
      record {
        sound = tested core (not-false (is_sound core) p.0);
        whole = eqb-true (length memory) core.memory_size (not-false (eqb (length memory) core.memory_size) p.1.0);
        room = ltb-false (length reply) 1027 p.1.1.0;
      }

  pub packet_refused : (p : List ℕ) (why : Refusal) → lend_refusal core memory reply ≡ Err why → packet_of core memory reply p ≡ kept core memory reply why
  unfolding packet_of
  packet_refused p why e = rw e

  pub packet_accepted : (p : List ℕ) → lend_refusal core memory reply ≡ Ok tt → packet_of core memory reply p ≡ carried (packet_step core p) (payload_of p) memory reply
  unfolding packet_of
  packet_accepted p e = rw e

  pub refused_leaves : (p : List ℕ) (why : Refusal) → lend_refusal core memory reply ≡ Err why → Leaves (packet_of core memory reply p) (refused core why) memory reply
  refused_leaves p why e =
      subst (λ (l : Left). Leaves l (refused core why) memory reply) (sym (packet_refused p why e))
      (record { outcome_given = refl; memory_left = refl; reply_left = refl })

  pub timeout_refused : (why : Refusal) → lend_refusal core memory reply ≡ Err why → timeout_of core memory reply ≡ refused core why
  unfolding timeout_of
  timeout_refused why e = rw e

  pub timeout_accepted : lend_refusal core memory reply ≡ Ok tt → timeout_of core memory reply ≡ record { core = timed_out core; answer = Ok Silent }
  unfolding timeout_of
  timeout_accepted e = rw e

-- what the parts of the call left is what the call leaves
carried_leaves : (step x : Step) (payload memory reply m r : List ℕ) (y : Answer) → x ≡ step → m ≡ stored step.store payload memory
    → y ≡ answer_of x.says (length (said x.says m)) → r ≡ laid (said x.says m) reply
    → Leaves (carried step payload memory reply) (record { core = x.core; answer = Ok y }) m r
carried_leaves step x payload memory reply m r y e f g h =
    record {
      outcome_given = ap (λ (z : Step). outcome z.core y) e ∙ ap (outcome step.core) (g ∙ ap (λ (z : Step). answer_of z.says (length (said z.says m))) e ∙ ap (λ (l : List ℕ). answer_of step.says (length (said step.says l))) f);
      memory_left = f;
      reply_left = h ∙ ap (λ (z : Step). laid (said z.says m) reply) e ∙ ap (λ (l : List ℕ). laid (said step.says l) reply) f;
    }
  where
    outcome : Core → Answer → Outcome Answer
    outcome core answer = record { core = core; answer = Ok answer }

pub accepted_leaves : (core : Core) (memory reply p : List ℕ) → lend_refusal core memory reply ≡ Ok tt → (x : Step) (m r : List ℕ) (y : Answer) → x ≡ packet_step core p → m ≡ stored (packet_step core p).store (payload_of p) memory
    → y ≡ answer_of x.says (length (said x.says m)) → r ≡ laid (said x.says m) reply
    → Leaves (packet_of core memory reply p) (record { core = x.core; answer = Ok y }) m r
accepted_leaves core memory reply p z x m r y e f g h =
    subst (λ (l : Left). Leaves l (record { core = x.core; answer = Ok y }) m r) (sym (packet_accepted core memory reply p z))
    (carried_leaves (packet_step core p) x (payload_of p) memory reply m r y e f g h)
