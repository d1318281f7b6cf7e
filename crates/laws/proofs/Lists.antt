-- A loop that counts up through a list and stops at the first element that decides, for each test of `specs/Lists.antt`: what is left of
-- the list is what is left to test. Each has a law for a turn, for the stop and for the end. Assumes nothing.
use Prim.Native.Nat.{ℕ, zero, suc, ◌+◌, ◌<◌, ◌≤◌}
use native.Mathlib.Omega.{arith}
use native.Mathlib.Numerals.{add-one}
use mathlib.Core.Path.{◌≡◌, refl, sym, ◌∙◌, subst}
use mathlib.Core.Bool.{Bool, true, false, ◌&&◌, cond, and_assoc}
use mathlib.Core.List.{List, [], ◌∷◌, ◌++◌, append_assoc}
use lib.ListN.{length, get_or, drop, drop_of_length-le}
use lib.Seq.{drop-cons}
use Rattle.laws.proofs.Bools.{both}
use Rattle.laws.specs.Lists.{all, gather, first_match}

module _ {A : Type 0} (l : List A) (i : ℕ) (whole : Bool) where
  module _ (f : A → Bool) (inv : whole ≡ all f (drop i l)) where
    pub all_turn : (d : A) → i < length l → f (get_or l i d) ≡ true → whole ≡ all f (drop (i + 1) l)
    all_turn d h e = inv ∙ rw (add-one, drop-cons l i d h, e)

    pub all_stop : (d : A) → i < length l → f (get_or l i d) ≡ false → whole ≡ false
    all_stop d h e = inv ∙ rw (drop-cons l i d h, e)

    pub all_end : length l ≤ i → whole ≡ true
    all_end h = inv ∙ rw (drop_of_length-le l h)

-- ---- the first match, by its index

pub record FirstAt {A : Type 0} (f : A → Bool) (d : A) (l : List A) (i : ℕ) : Type 0 where
  pub within : i < length l
  pub passes : f (get_or l i d) ≡ true
  pub earlier : (j : ℕ) → j < i → f (get_or l j d) ≡ false

module _ {A B : Type 0} (f : A → Bool) (hit : ℕ → B) (miss : B) (d : A) (P : B → Type 0) where
  -- what holds of the hit at the first element that passes, and of the miss where none does, holds of what is found
  pub matched : (k : ℕ) (l : List A) → ((i : ℕ) → FirstAt f d l i → P (hit (i + k))) → (((j : ℕ) → j < length l → f (get_or l j d) ≡ false) → P miss) → P (first_match f hit miss k l)
  matched k [] at none = none (λ j h. absurd (omega arith))
  matched k (x ∷ l) at none = pick (f x) refl (matched (suc k) l)
    where
      pick : (b : Bool) → f x ≡ b → (((i : ℕ) → FirstAt f d l i → P (hit (i + suc k))) → (((j : ℕ) → j < length l → f (get_or l j d) ≡ false) → P miss) → P (first_match f hit miss (suc k) l)) → P (cond b (hit k) (first_match f hit miss (suc k) l))
      pick true e later = let same : 0 + k ≡ k = omega arith in subst (λ (n : ℕ). P (hit n)) same (at 0 (record { within = omega arith; passes = e; earlier = λ j h. absurd (omega arith) }))
      pick false e later = later after (λ m. none (passed_over m))
        where
          passed_over : ((j : ℕ) → j < length l → f (get_or l j d) ≡ false) → (j : ℕ) → j < length (x ∷ l) → f (get_or (x ∷ l) j d) ≡ false
          passed_over m zero h = e
          passed_over m (suc j) h = m j (omega arith)

          first_later : (i : ℕ) → FirstAt f d l i → (j : ℕ) → j < suc i → f (get_or (x ∷ l) j d) ≡ false
          first_later i p zero h = e
          first_later i p (suc j) h = p.earlier j (omega arith)

          after : (i : ℕ) → FirstAt f d l i → P (hit (i + suc k))
          after i p =
              let same : suc i + k ≡ i + suc k = omega arith in
              subst (λ (n : ℕ). P (hit n)) same (at (suc i) (record { within = omega (arith, p.within); passes = p.passes; earlier = first_later i p }))

-- ---- each element, by its index

module _ {A : Type 0} (f : A → Bool) (d : A) where
  pub all_at : (l : List A) (i : ℕ) → i < length l → all f l ≡ true → f (get_or l i d) ≡ true
  all_at [] i h e = absurd (omega arith)
  all_at (x ∷ l) zero h e = (both (f x) (all f l) e).0
  all_at (x ∷ l) (suc i) h e = all_at l i (omega arith) (both (f x) (all f l) e).1

  pub all_true : ((x : A) → f x ≡ true) → (l : List A) → all f l ≡ true
  all_true h [] = refl
  all_true h (x ∷ l) = rw (h x, all_true h l)

  pub all_from : (l : List A) → ((i : ℕ) → i < length l → f (get_or l i d) ≡ true) → all f l ≡ true
  all_from [] h = refl
  all_from (x ∷ l) h = rw (h 0 (omega arith), all_from l (λ i k. h (suc i) (omega arith)))

-- ---- what is gathered

module _ {A B : Type 0} (f : A → List B) (d : A) (l : List A) (i : ℕ) where
  pub gather_turn : i < length l → gather f (drop i l) ≡ f (get_or l i d) ++ gather f (drop (i + 1) l)
  gather_turn h = rw (add-one, drop-cons l i d h)

  pub gather_end : length l ≤ i → gather f (drop i l) ≡ []
  gather_end h = rw (drop_of_length-le l h)

module _ {A B : Type 0} (f : A → List B) where
  pub gather_append : (k l : List A) → gather f (k ++ l) ≡ gather f k ++ gather f l
  gather_append [] l = refl
  gather_append (x ∷ k) l = rw (gather_append k l) (sym (append_assoc (f x) (gather f k) (gather f l)))

module _ {A : Type 0} (f : A → Bool) where
  pub all_append : (k l : List A) → all f (k ++ l) ≡ (all f k && all f l)
  all_append [] l = refl
  all_append (x ∷ k) l = rw (all_append k l) (sym (and_assoc (f x) (all f k) (all f l)))

module _ {A B : Type 0} (f : B → Bool) (g : A → List B) where
  pub all_gather : (l : List A) → all f (gather g l) ≡ all (λ x. all f (g x)) l
  all_gather [] = refl
  all_gather (x ∷ l) = rw (all_append f (g x) (gather g l), all_gather l)

module _ {A : Type 0} (f g : A → Bool) (same : (x : A) → f x ≡ g x) where
  pub all_same : (l : List A) → all f l ≡ all g l
  all_same [] = refl
  all_same (x ∷ l) = rw (same x, all_same l)
