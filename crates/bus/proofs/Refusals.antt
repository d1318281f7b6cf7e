-- Each refusal of a bus call is given exactly when its row holds and no earlier one does; a refused call keeps the state and every lent byte; and a
-- call takes a sound state to a sound state. Assumes nothing.
use Prim.Native.Nat.{ℕ}
use mathlib.Core.Path.{◌≡◌, refl, sym, ◌∙◌}
use mathlib.Core.Bool.{false}
use mathlib.Core.List.{List}
use lib.ListN.{length}
use Rattle.std.specs.Prelude.{Result, Ok, Err}
use Rattle.laws.proofs.First.{Given}
use Rattle.refusals.specs.declared.Refusal.{Refusal}
use Rattle.refusals.specs.Refusals.{numbered}
use Rattle.refusals.proofs.Judging.{number_only_when, number_whenever}
use Rattle.wire.specs.Data.{payload_of}
use Rattle.state.specs.declared.Core.{Core}
use Rattle.state.specs.declared.Outcome.{Outcome}
use Rattle.state.specs.Sound.{Sound}
use Rattle.bus.specs.declared.Answer.{Answer}
use Rattle.bus.specs.declared.Answer.TheVariants.{Silent}
use Rattle.bus.specs.Answers.{refusal, replied, is_sof, frame_number}
use Rattle.bus.specs.Arrival.{packet_step, timed_out}
use Rattle.bus.specs.Calls.{lend_tests, lend_refusal, settled, refused, kept, carried, packet_of, timeout_of}
use Rattle.bus.proofs.KeepsSound.{packet_step_sound, timeout_sound}

-- ---- exactly when

module _ (core : Core) (memory reply : List ℕ) where
  packet_refusal : (p : List ℕ) → refusal (packet_of core memory reply p).outcome.answer ≡ refusal (lend_refusal core memory reply)
  unfolding packet_of
  packet_refusal p = pick (lend_refusal core memory reply)
    where
      pick : (x : Result Unit Refusal) → refusal (settled x (kept core memory reply) (carried (packet_step core p) (payload_of p) memory reply)).outcome.answer ≡ refusal x
      pick (Ok done) = refl
      pick (Err why) = refl

  timeout_refusal : refusal (timeout_of core memory reply).answer ≡ refusal (lend_refusal core memory reply)
  unfolding timeout_of
  timeout_refusal = pick (lend_refusal core memory reply)
    where
      pick : (x : Result Unit Refusal) → refusal (settled x (refused core) (record { core = timed_out core; answer = Ok Silent })).answer ≡ refusal x
      pick (Ok done) = refl
      pick (Err why) = refl

  -- what an answer says of the tests
  pub record Judges (a : Result Answer Refusal) : Type 0 where
    pub only_when : (n : ℕ) → refusal a ≡ n → Given (numbered (lend_tests core (length memory) (length reply))) 0 n
    pub whenever : (n : ℕ) → Given (numbered (lend_tests core (length memory) (length reply))) 0 n → refusal a ≡ n

  judges : (a : Result Answer Refusal) → refusal a ≡ refusal (lend_refusal core memory reply) → Judges a
  judges a r =
      record {
        only_when = λ n e. number_only_when (lend_tests core (length memory) (length reply)) n (sym r ∙ e);
        whenever = λ n g. r ∙ number_whenever (lend_tests core (length memory) (length reply)) n g;
      }

  pub packet_judges : (p : List ℕ) → Judges (packet_of core memory reply p).outcome.answer
  packet_judges p = judges _ (packet_refusal p)

  pub timeout_judges : Judges (timeout_of core memory reply).answer
  timeout_judges = judges _ timeout_refusal

  -- ---- a refused call

  -- the state as it was, and every other number answered is 0
  pub record Unanswered (o : Outcome Answer) : Type 0 where
    pub core_kept : o.core ≡ core
    pub no_reply : replied o.answer ≡ 0
    pub no_sof : is_sof o.answer ≡ false
    pub no_frame : frame_number o.answer ≡ 0

  unanswered : (why : Refusal) → Unanswered (refused core why)
  unanswered why = record { core_kept = refl; no_reply = refl; no_sof = refl; no_frame = refl }

  pub packet_keeps : (p : List ℕ) → (lend_refusal core memory reply ≡ Ok tt → ⊥) → Unanswered (packet_of core memory reply p).outcome × ((packet_of core memory reply p).memory ≡ memory) × ((packet_of core memory reply p).reply ≡ reply)
  unfolding packet_of
  packet_keeps p = pick (lend_refusal core memory reply)
    where
      pick : (x : Result Unit Refusal) → (x ≡ Ok tt → ⊥) → let l = settled x (kept core memory reply) (carried (packet_step core p) (payload_of p) memory reply) in Unanswered l.outcome × (l.memory ≡ memory) × (l.reply ≡ reply)
      pick (Ok done) h = absurd (h refl)
      pick (Err why) h = (unanswered why, refl, refl)

  pub timeout_keeps : (lend_refusal core memory reply ≡ Ok tt → ⊥) → Unanswered (timeout_of core memory reply)
  unfolding timeout_of
  timeout_keeps = pick (lend_refusal core memory reply)
    where
      pick : (x : Result Unit Refusal) → (x ≡ Ok tt → ⊥) → Unanswered (settled x (refused core) (record { core = timed_out core; answer = Ok Silent }))
      pick (Ok done) h = absurd (h refl)
      pick (Err why) h = unanswered why

  -- ---- a sound state stays sound

  module _ (w : Sound core) where
    pub packet_sound : (p : List ℕ) → Sound (packet_of core memory reply p).outcome.core
    unfolding packet_of
    packet_sound p = pick (lend_refusal core memory reply)
      where
        pick : (x : Result Unit Refusal) → Sound (settled x (kept core memory reply) (carried (packet_step core p) (payload_of p) memory reply)).outcome.core
        pick (Ok done) = packet_step_sound core w p
        pick (Err why) = w

    pub timeout_call_sound : Sound (timeout_of core memory reply).core
    unfolding timeout_of
    timeout_call_sound = pick (lend_refusal core memory reply)
      where
        pick : (x : Result Unit Refusal) → Sound (settled x (refused core) (record { core = timed_out core; answer = Ok Silent })).core
        pick (Ok done) = timeout_sound core w
        pick (Err why) = w
