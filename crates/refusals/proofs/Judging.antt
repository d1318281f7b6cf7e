-- What a list of tests judges, exactly: nothing is refused where no test holds, and else the refusal is that of the first that does.
-- Assumes nothing.
use Prim.Native.Nat.{ℕ}
use native.Mathlib.Omega.{arith}
use mathlib.Core.Path.{◌≡◌, refl, sym, ap, ◌∙◌}
use mathlib.Core.Bool.{Bool, true, false, cond}
use mathlib.Core.List.{List, [], ◌∷◌}
use lib.Dec.{eqb}
use borrow.Author.Tests.{ne_eqb}
use Rattle.std.specs.Prelude.{Result, Ok, Err}
use Rattle.laws.specs.Lists.{first_of}
use Rattle.laws.proofs.First.{Given, given, first, Passed, Numbered, passed}
use Rattle.refusals.specs.declared.Refusal.{Refusal}
use Rattle.refusals.specs.Refusals.{number, judged, numbered, answered, refusal, returned}
use Rattle.refusals.proofs.Numbers.{number_positive}

-- this paper's number of what is judged is the number of the first test that holds
pub judged_number : (ts : List (Bool × Refusal)) → refusal (judged ts) ≡ first_of (numbered ts) 0
judged_number [] = refl
judged_number (t ∷ ts) = pick t.0 (judged_number ts)
  where
    pick : (b : Bool) → refusal (judged ts) ≡ first_of (numbered ts) 0 → refusal (cond b (Err t.1) (judged ts)) ≡ cond b (number t.1) (first_of (numbered ts) 0)
    pick true e = refl
    pick false e = e

pub judged_when : (ts : List (Bool × Refusal)) → Passed ts → judged ts ≡ Ok tt
judged_when [] p = refl
judged_when (t ∷ ts) p = rw (p.0, judged_when ts p.1)

numbered_tests : (ts : List (Bool × Refusal)) → Numbered (numbered ts)
numbered_tests [] = tt
numbered_tests (t ∷ ts) = (number_positive t.1, numbered_tests ts)

unnumbered : (ts : List (Bool × Refusal)) → Passed (numbered ts) → Passed ts
unnumbered [] p = tt
unnumbered (t ∷ ts) p = (p.0, unnumbered ts p.1)

-- each test is false where the number is 0, so where nothing is refused
pub number_passed : (ts : List (Bool × Refusal)) → refusal (judged ts) ≡ 0 → Passed ts
number_passed ts e = unnumbered ts (passed (numbered ts) (numbered_tests ts) (sym (judged_number ts) ∙ e))

pub judged_passed : (ts : List (Bool × Refusal)) → judged ts ≡ Ok tt → Passed ts
judged_passed ts e = number_passed ts (ap (λ (r : Result Unit Refusal). refusal r) e)

-- an answer says the number of what was judged
pub answered_refusal : {A : Type 0} (r : Result Unit Refusal) (a : A) → refusal (answered r a) ≡ refusal r
answered_refusal (Ok done) a = refl
answered_refusal (Err why) a = refl

-- the other number answered to what was judged
pub answered_returns : (r : Result Unit Refusal) (n : ℕ) → returned (answered r n) ≡ cond (eqb (refusal r) 0) n 0
answered_returns (Ok done) n = refl
answered_returns (Err why) n = rw (ne_eqb (number why) 0 (λ e. omega (arith, number_positive why, e)))

-- this paper's number is given exactly where its test holds and no earlier one does, and 0 where none does
module _ (ts : List (Bool × Refusal)) (n : ℕ) where
  pub number_only_when : refusal (judged ts) ≡ n → Given (numbered ts) 0 n
  number_only_when e = given (numbered ts) 0 n (sym (judged_number ts) ∙ e)

  pub number_whenever : Given (numbered ts) 0 n → refusal (judged ts) ≡ n
  number_whenever g = judged_number ts ∙ first (numbered ts) 0 n g
