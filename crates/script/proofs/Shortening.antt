-- A word grows by a character: what is kept of it then. Assumes nothing.
use Prim.Native.Nat.{ℕ, ◌≤◌, ◌<◌}
use native.Mathlib.Omega.{arith}
use mathlib.Core.Path.{◌≡◌, refl, sym, ◌∙◌}
use mathlib.Core.Bool.{Bool, true, false, ◌&&◌, cond, and-true, and-false}
use mathlib.Core.List.{List, [], ◌∷◌, ◌++◌}
use lib.Dec.{eqb}
use lib.ListN.{length, take, length-append, length-take}
use lib.Seq.{take_all, take-append-le}
use Rattle.script.specs.Numbers.{is_decimal}
use Rattle.script.specs.Words.{same}
use Rattle.script.specs.Intake.{unled, shortened}

-- ---- zeros in front

unled_more : (word : List ℕ) (c : ℕ) → unled (word ++ (c ∷ [])) ≡ cond (same (unled word) (48 ∷ []) && is_decimal c) (c ∷ []) (unled word ++ (c ∷ []))
unfolding unled
unled_more [] c = refl
unled_more (x ∷ []) c = rw (and-true (eqb x 48))
unled_more (x ∷ y ∷ rest) c = pick (eqb x 48 && is_decimal y) (unled_more (y ∷ rest) c)
  where
    pick : (t : Bool) → unled ((y ∷ rest) ++ (c ∷ [])) ≡ cond (same (unled (y ∷ rest)) (48 ∷ []) && is_decimal c) (c ∷ []) (unled (y ∷ rest) ++ (c ∷ []))
        → cond t (unled (y ∷ (rest ++ (c ∷ [])))) (x ∷ y ∷ (rest ++ (c ∷ [])))
        ≡ cond (same (cond t (unled (y ∷ rest)) (x ∷ y ∷ rest)) (48 ∷ []) && is_decimal c) (c ∷ []) (cond t (unled (y ∷ rest)) (x ∷ y ∷ rest) ++ (c ∷ []))
    pick true e = e
    pick false e = rw (and-false (eqb x 48))

-- ---- what is kept

same_one : (c : ℕ) (list : List ℕ) → same (take 16 list) (c ∷ []) ≡ same list (c ∷ [])
same_one c [] = refl
same_one c (x ∷ []) = refl
same_one c (x ∷ y ∷ rest) = refl

pub shortened_length : (word : List ℕ) → length (shortened word) ≤ 16
unfolding shortened
shortened_length word = omega (arith, length-take 16 (unled word))

module _ (word : List ℕ) (c : ℕ) where
  pub zero_replaced : (same (shortened word) (48 ∷ []) && is_decimal c) ≡ true → shortened (word ++ (c ∷ [])) ≡ c ∷ []
  unfolding shortened
  zero_replaced e = rw (unled_more word c, sym (same_one 48 (unled word)), e)

  module _ (e : (same (shortened word) (48 ∷ []) && is_decimal c) ≡ false) where
    grown : shortened (word ++ (c ∷ [])) ≡ take 16 (unled word ++ (c ∷ []))
    unfolding shortened
    grown = rw (unled_more word c, sym (same_one 48 (unled word)), e)

    pub one_appended : length (shortened word) < 16 → shortened (word ++ (c ∷ [])) ≡ shortened word ++ (c ∷ [])
    unfolding shortened
    one_appended h =
        let short : length (unled word) < 16 = omega (arith, length-take 16 (unled word)) in
        let whole : take 16 (unled word) ≡ unled word = take_all 16 (unled word) (omega arith) in
        grown ∙ rw whole (take_all 16 (unled word ++ (c ∷ [])) (rw (length-append (unled word) (c ∷ [])) (omega arith)))

    pub none_appended : 16 ≤ length (shortened word) → shortened (word ++ (c ∷ [])) ≡ shortened word
    unfolding shortened
    none_appended h = grown ∙ take-append-le 16 (unled word) (c ∷ []) (omega (arith, length-take 16 (unled word)))

-- ---- something is kept of something

unled_some : (c : ℕ) (rest : List ℕ) → 0 < length (unled (c ∷ rest))
unfolding unled
unled_some c [] = omega arith
unled_some c (d ∷ rest) = pick (eqb c 48 && is_decimal d) (unled_some d rest)
  where
    pick : (t : Bool) → 0 < length (unled (d ∷ rest)) → 0 < length (cond t (unled (d ∷ rest)) (c ∷ d ∷ rest))
    pick true h = h
    pick false h = omega arith

pub shortened_some : (c : ℕ) (rest : List ℕ) → 0 < length (shortened (c ∷ rest))
unfolding shortened
shortened_some c rest = omega (arith, length-take 16 (unled (c ∷ rest)), unled_some c rest)

pub shortened_none : shortened [] ≡ []
unfolding shortened unled
shortened_none = refl
