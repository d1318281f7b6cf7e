-- A conjunction `a && b && ..` holds exactly where each of its parts does; the equality of numbers by its test. Assumes nothing.
use Prim.Native.Nat.{ℕ}
use mathlib.Core.Path.{◌≡◌, refl, sym, ◌∙◌}
use mathlib.Core.Bool.{Bool, true, false, ◌&&◌, ◌||◌, false≢true, true≢false}
use mathlib.Core.List.{List, [], ◌∷◌}
use lib.Dec.{eqb}
use borrow.Author.Tests.{eqb-true, eqb-false, ne_eqb}

-- the conjunction, as it is written: to the left
abbrev pub conjunction : Bool → List Bool → Bool
conjunction a [] = a
conjunction a (b ∷ l) = conjunction (a && b) l

abbrev pub Each : List Bool → Type 0
Each [] = Unit {0}
Each (a ∷ l) = (a ≡ true) × Each l

pub both : (a b : Bool) → (a && b) ≡ true → (a ≡ true) × (b ≡ true)
both true b e = (refl, e)
both false b e = absurd (false≢true e)

pub parts : (a : Bool) (l : List Bool) → conjunction a l ≡ true → Each (a ∷ l)
parts a [] e = (e, tt)
parts a (b ∷ l) e =
    let p = parts (a && b) l e in
    let q = both a b p.0 in
    (q.0, (q.1, p.1))

pub joined : (a : Bool) (l : List Bool) → Each (a ∷ l) → conjunction a l ≡ true
joined a [] p = p.0
joined a (b ∷ l) p = joined (a && b) l (rw (p.0, p.1.0), p.1.1)

-- what follows from either follows from both
pub either : {P : Type 0} (a b : Bool) → (a ≡ true → P) → (b ≡ true → P) → (a || b) ≡ true → P
either true b f g e = f refl
either false b f g e = g e

pub neither : (a b : Bool) → (a || b) ≡ false → (a ≡ false) × (b ≡ false)
neither false b e = (refl, e)
neither true b e = absurd (true≢false e)

-- ---- two numbers are equal, or not

pub dec_eq : (m n : ℕ) → Dec (m ≡ n)
dec_eq m n = pick (eqb m n) refl
  where
    pick : (b : Bool) → eqb m n ≡ b → Dec (m ≡ n)
    pick true e = yes (eqb-true m n e)
    pick false e = no (eqb-false m n e)

pub eqb_comm : (m n : ℕ) → eqb m n ≡ eqb n m
eqb_comm m n = pick (dec_eq m n)
  where
    pick : Dec (m ≡ n) → eqb m n ≡ eqb n m
    pick (yes e) = rw e
    pick (no h) = ne_eqb m n h ∙ sym (ne_eqb n m (λ e. h (sym e)))
