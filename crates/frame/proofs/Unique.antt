-- Under one contract no function has two outcomes, the lent record with them: what each contract says is one equation. Assumes nothing.
use Prim.Native.Nat.{ℕ}
use mathlib.Core.Path.{◌≡◌, ap}
use Rattle.laws.proofs.Once.{Once, once}
use Rattle.frame.specs.declared.Frame.{Frame}
use Rattle.std.specs.Prelude.{Result}
use Rattle.refusals.specs.declared.Refusal.{Refusal}
use Rattle.frame.specs.declared.Outcome.{Outcome}
use Rattle.frame.specs.Frames.{outcome, empty, counted_of}

pub empty_once : Once empty
empty_once = once _

module _ (before : Frame) (number : ℕ) where
  pub counted_once : Once (counted_of before number)
  counted_once = once _

  module _ (after : Frame) (answer : Result ℕ Refusal) (e : outcome after answer ≡ counted_of before number) where
    -- the frame record where it stands, and the answer, are those of the function by value
    pub count_as_counted : (o : Outcome) → o ≡ counted_of before number → (after ≡ o.frame) × (answer ≡ o.answer)
    count_as_counted o e' = let same = counted_once (outcome after answer) o e e' in (ap (λ (u : Outcome). u.frame) same, ap (λ (u : Outcome). u.answer) same)

    pub count_once : (after' : Frame) (answer' : Result ℕ Refusal) → outcome after' answer' ≡ counted_of before number → (after ≡ after') × (answer ≡ answer')
    count_once after' answer' e' = count_as_counted (outcome after' answer') e'
