-- Tests over lists, each in the list's own order.
use Rattle.std.specs.Prelude.{ℕ, suc, Bool, true, ◌&&◌, cond, List, [], ◌∷◌, ◌++◌}
use Rattle.std.specs.List.{list_all}

module _ {A : Type 0} where
  -- each element passes
  abbrev pub all : (A → Bool) → List A → Bool
  all f xs = list_all f xs

  -- each element stands well with every later one
  abbrev pub pairs : (A → A → Bool) → List A → Bool
  pairs f [] = true
  pairs f (x ∷ xs) = all (f x) xs && pairs f xs

  -- the answer of the first test that holds, or else the last answer
  abbrev pub first_of : List (Bool × A) → A → A
  first_of [] last = last
  first_of (t ∷ ts) last = cond t.0 t.1 (first_of ts last)

module _ {A B : Type 0} where
  -- what f gives of each element, one after the other
  abbrev pub gather : (A → List B) → List A → List B
  gather f [] = []
  gather f (x ∷ xs) = f x ++ gather f xs

module _ {A B : Type 0} (f : A → Bool) (hit : ℕ → B) (miss : B) where
  -- the hit at the first place, counted from k, whose element passes, or else the miss
  abbrev pub first_match : ℕ → List A → B
  first_match k [] = miss
  first_match k (x ∷ xs) = cond (f x) (hit k) (first_match (suc k) xs)
