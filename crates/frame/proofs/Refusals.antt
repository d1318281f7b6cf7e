-- Refusal 16 exactly when its row holds, and then the record stays and no count is answered: both cases of the test compute. Assumes nothing.
use Prim.Native.Nat.{ℕ}
use native.Mathlib.Omega.{arith}
use mathlib.Core.Path.{◌≡◌, refl}
use mathlib.Core.Bool.{Bool, true, false, ◌||◌, or-true}
use mathlib.Core.List.{List, [], ◌∷◌}
use mathlib.Core.Logic.{inl, inr}
use lib.Dec.{ltb}
use borrow.Author.Tests.{ltb-true, lt-ltb}
use Rattle.laws.proofs.First.{Given}
use Rattle.refusals.specs.declared.Refusal.{Refusal}
use Rattle.refusals.specs.declared.Refusal.TheVariants.{NoSuchFrame}
use Rattle.refusals.specs.Refusals.{judged, numbered, refusal, returned}
use Rattle.refusals.proofs.Judging.{number_only_when, number_whenever}
use Rattle.frame.specs.declared.Frame.{Frame}
use Rattle.frame.specs.declared.Outcome.{Outcome}
use Rattle.frame.specs.Frames.{no_run_gives, frame_tests, accepted, settled, counted_of}
use Rattle.frame.specs.History.{Row16}
use Rattle.frame.proofs.Runs.{no_run, no_run_only}

-- what an outcome of a call on a frame record says of its tests
pub record Judges (tests : List (Bool × Refusal)) (before : Frame) (o : Outcome) : Type 0 where
  pub only_when : (n : ℕ) → refusal o.answer ≡ n → Given (numbered tests) 0 n
  pub whenever : (n : ℕ) → Given (numbered tests) 0 n → refusal o.answer ≡ n
  pub kept : (refusal o.answer ≡ 0 → ⊥) → (o.frame ≡ before) × (returned o.answer ≡ 0)

module _ (frame : Frame) (number : ℕ) where
  judges : (b : Bool) → Judges ((b, NoSuchFrame) ∷ []) frame (settled (judged ((b, NoSuchFrame) ∷ [])) frame (accepted frame number))
  judges true = record { only_when = number_only_when ((true, NoSuchFrame) ∷ []); whenever = number_whenever ((true, NoSuchFrame) ∷ []); kept = λ h. (refl, refl) }
  judges false = record { only_when = number_only_when ((false, NoSuchFrame) ∷ []); whenever = number_whenever ((false, NoSuchFrame) ∷ []); kept = λ h. absurd (h refl) }

  pub counted_judges : Judges (frame_tests frame number) frame (counted_of frame number)
  unfolding counted_of
  counted_judges = judges (ltb 2047 number || no_run_gives frame)

  pub row_whenever : Row16 frame number → refusal (counted_of frame number).answer ≡ 16
  row_whenever row = counted_judges.whenever 16 (inl (holds row, refl))
    where
      holds : Row16 frame number → (ltb 2047 number || no_run_gives frame) ≡ true
      holds (inl large) = simp (lt-ltb 2047 number large)
      holds (inr none) = simp (no_run_only frame none, or-true)

  pub row_only_when : refusal (counted_of frame number).answer ≡ 16 → Row16 frame number
  row_only_when e = pick (counted_judges.only_when 16 e)
    where
      either : (b : Bool) → ltb 2047 number ≡ b → (b || no_run_gives frame) ≡ true → Row16 frame number
      either true e h = inl (ltb-true 2047 number e)
      either false e h = inr (no_run frame h)

      pick : Given (numbered (frame_tests frame number)) 0 16 → Row16 frame number
      pick (inl h) = either (ltb 2047 number) refl h.0
      pick (inr h) = absurd (omega (arith, h.1))
