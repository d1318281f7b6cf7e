-- A table's rule: the list of a function's values, which antt computes and compares with the table's entries, holds at each place what
-- the function gives there. Assumes nothing.
use mathlib.Core.Path.{◌≡◌, refl, ◌∙◌, ap, sym}
use mathlib.Core.List.{List, ◌∷◌}
use Prim.Native.Nat.{ℕ, zero, suc, ◌+◌, ◌≤◌, ◌<◌}
use native.Mathlib.Nat.{add-zero, zero-add, add-suc, suc-add, le_of_suc-le-suc, not-suc-le-zero}
use native.Mathlib.Omega.{arith}
use lib.ListN.{length, get_or, take, drop}
use lib.Seq.{drop-cons}
use Rattle.laws.specs.Table.{values}

module _ {A : Type 0} (f : ℕ → A) (d : A) where
  from : (n i k : ℕ) → k < n → get_or (values f i n) k d ≡ f (i + k)
  from zero i k h = absurd (not-suc-le-zero h)
  from (suc n) i zero h = ap f (sym (add-zero i))
  from (suc n) i (suc k) h = from n (suc i) k (le_of_suc-le-suc h) ∙ ap f (suc-add i k ∙ sym (add-suc i k))

  pub lookup : (n k : ℕ) → k < n → get_or (values f 0 n) k d ≡ f k
  lookup n k h = from n 0 k h ∙ ap f (zero-add k)

-- two functions whose values antt computes alike
pub same_values : {A : Type 0} (f g : ℕ → A) (n : ℕ) → values f 0 n ≡ values g 0 n → (k : ℕ) → k < n → f k ≡ g k
same_values {A} f g n e k h = sym (lookup f (f 0) n k h) ∙ ap (λ (l : List A). get_or l k (f 0)) e ∙ lookup g (f 0) n k h

-- the elements from a place of a list on, one by one
pub taken : {A : Type 0} (l : List A) (d : A) (n i : ℕ) → i + n ≤ length l → take n (drop i l) ≡ values (λ k. get_or l k d) i n
taken l d zero i h = refl
taken {A} l d (suc n) i h =
    ap (take (suc n)) (drop-cons l i d (omega arith)) ∙ ap (λ (r : List A). get_or l i d ∷ r) (taken l d n (suc i) (omega arith))
