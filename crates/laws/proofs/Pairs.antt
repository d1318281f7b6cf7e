-- Pairs of a list in which one element is put in, taken out or replaced. Assumes nothing.
use Prim.Native.Nat.{ℕ, zero, suc, ◌<◌}
use native.Mathlib.Omega.{arith}
use mathlib.Core.Path.{◌≡◌, refl, sym, ◌∙◌}
use mathlib.Core.Bool.{Bool, true}
use mathlib.Core.List.{List, [], ◌∷◌, ◌++◌}
use lib.ListN.{length, get_or, set}
use Rattle.laws.specs.Lists.{all, pairs, gather}
use Rattle.laws.proofs.Bools.{both}
use Rattle.laws.proofs.Lists.{all_append, all_at}

module _ {A : Type 0} (f : A → Bool) where
  pub all_without : (k m l : List A) → all f (k ++ (m ++ l)) ≡ true → all f (k ++ l) ≡ true
  all_without k m l e =
      let p = both (all f k) (all f (m ++ l)) (sym (all_append f k (m ++ l)) ∙ e) in
      let q = both (all f m) (all f l) (sym (all_append f m l) ∙ p.1) in
      rw (all_append f k l, p.0, q.1)

  pub all_with : (k l : List A) (x : A) → all f (k ++ l) ≡ true → f x ≡ true → all f (k ++ (x ∷ l)) ≡ true
  all_with k l x e h =
      let p = both (all f k) (all f l) (sym (all_append f k l) ∙ e) in rw (all_append f k (x ∷ l), p.0, h, p.1)

module _ {A : Type 0} (f : A → A → Bool) where
  later : (m l : List A) → pairs f (m ++ l) ≡ true → pairs f l ≡ true
  later [] l e = e
  later (x ∷ m) l e = later m l (both (all (f x) (m ++ l)) (pairs f (m ++ l)) e).1

  -- some elements are taken out
  pub pairs_without : (k m l : List A) → pairs f (k ++ (m ++ l)) ≡ true → pairs f (k ++ l) ≡ true
  pairs_without [] m l e = later m l e
  pairs_without (x ∷ k) m l e =
      let p = both (all (f x) (k ++ (m ++ l))) (pairs f (k ++ (m ++ l))) e in
      rw (all_without (f x) k m l p.0, pairs_without k m l p.1)

  module _ (both_ways : (a b : A) → f a b ≡ true → f b a ≡ true) where
    -- an element that stands well with each is put in
    pub pairs_with : (k l : List A) (x : A) → pairs f (k ++ l) ≡ true → all (f x) (k ++ l) ≡ true → pairs f (k ++ (x ∷ l)) ≡ true
    pairs_with [] l x e h = rw (h, e)
    pairs_with (y ∷ k) l x e h =
        let p = both (all (f y) (k ++ l)) (pairs f (k ++ l)) e in
        let q = both (f x y) (all (f x) (k ++ l)) h in
        rw (all_with (f y) k l x p.0 (both_ways x y q.0), pairs_with k l x p.1 q.1)

    -- one is replaced by an element that stands well with each other one
    pub pairs_set : (l : List A) (i : ℕ) (x y : A) → pairs f l ≡ true → all (f x) (set l i y) ≡ true → pairs f (set l i x) ≡ true
    pairs_set [] i x y e h = refl
    pairs_set (z ∷ l) zero x y e h =
        rw ((both (f x y) (all (f x) l) h).1, (both (all (f z) l) (pairs f l) e).1)
    pairs_set (z ∷ l) (suc i) x y e h =
        let p = both (all (f z) l) (pairs f l) e in
        let q = both (f x z) (all (f x) (set l i y)) h in
        rw (all_set (f z) l i x p.0 (both_ways x z q.0), pairs_set l i x y p.1 q.1)
      where
        all_set : (g : A → Bool) (l : List A) (i : ℕ) (x : A) → all g l ≡ true → g x ≡ true → all g (set l i x) ≡ true
        all_set g [] i x e h = refl
        all_set g (z ∷ l) zero x e h = rw (h, (both (g z) (all g l) e).1)
        all_set g (z ∷ l) (suc i) x e h =
            let p = both (g z) (all g l) e in rw (p.0, all_set g l i x p.1 h)

-- an earlier element and a later one
pub pair_at : {A : Type 0} (f : A → A → Bool) (d : A) (l : List A) (i j : ℕ) → i < j → j < length l → pairs f l ≡ true → f (get_or l i d) (get_or l j d) ≡ true
pair_at f d [] i j h k e = absurd (omega arith)
pair_at f d (x ∷ l) i zero h k e = absurd (omega arith)
pair_at f d (x ∷ l) zero (suc j) h k e = all_at (f x) d l j (omega arith) (both (all (f x) l) (pairs f l) e).0
pair_at f d (x ∷ l) (suc i) (suc j) h k e = pair_at f d l i j (omega arith) (omega arith) (both (all (f x) l) (pairs f l) e).1

-- an element is replaced by one of which the same is gathered
pub gather_set : {A B : Type 0} (g : A → List B) (d : A) (l : List A) (i : ℕ) (x : A) → g x ≡ g (get_or l i d) → gather g (set l i x) ≡ gather g l
gather_set g d [] i x e = refl
gather_set g d (y ∷ l) zero x e = rw e
gather_set g d (y ∷ l) (suc i) x e = rw (gather_set g d l i x e)
