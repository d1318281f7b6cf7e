-- A number grows by a digit: what is told of the digit is told of every word that goes on with it. Assumes nothing.
use Prim.Native.Nat.{ℕ, suc, ◌+◌, ◌-◌, ◌*◌, ◌≤◌, ◌<◌}
use native.Mathlib.Numerals.{add-one}
use native.Mathlib.Omega.{arith}
use mathlib.Core.Path.{◌≡◌, refl, sym, ◌∙◌}
use mathlib.Core.Bool.{Bool, true, false, ◌&&◌, cond, and-false}
use mathlib.Core.List.{List, [], ◌∷◌}
use lib.Dec.{leb, eqb}
use lib.ListN.{length, get_or, drop, drop_of_length-le}
use lib.Seq.{drop-cons}
use borrow.Author.Tests.{le-leb, lt-leb, leb-true, leb-false, ne_eqb}
use Rattle.laws.specs.Lists.{all}
use Rattle.laws.proofs.Bools.{both}
use Rattle.script.specs.Numbers.{is_decimal, value_from, largest, number_from, number_of, appended_of}
use Rattle.std.proofs.Common.{Some, None}

pub grows : (n : ℕ) (word : List ℕ) → n ≤ value_from n word
grows n [] = omega arith
grows n (c ∷ rest) = omega (arith, grows (n * 10 + (c - 48)) rest)

module _ (n c : ℕ) where
  no_digit : (rest : List ℕ) → is_decimal c ≡ false → number_from n (c ∷ rest) ≡ None
  unfolding number_from
  no_digit rest e = rw e

  too_large : (rest : List ℕ) → largest < n * 10 + (c - 48) → number_from n (c ∷ rest) ≡ None
  unfolding number_from
  too_large rest h =
      rw (lt-leb (value_from (n * 10 + (c - 48)) rest) largest (omega (arith, h, grows (n * 10 + (c - 48)) rest)), and-false (is_decimal c && all is_decimal rest))

  goes_on : (rest : List ℕ) → is_decimal c ≡ true → number_from n (c ∷ rest) ≡ number_from (n * 10 + (c - 48)) rest
  unfolding number_from
  goes_on rest e = rw e

  pub at_least : is_decimal c ≡ true → 48 ≤ c
  unfolding is_decimal
  at_least e = leb-true 48 c (both (leb 48 c) (leb c 57) e).0

  pub further : (m : ℕ) (rest : List ℕ) → appended_of n c ≡ Some m → number_from n (c ∷ rest) ≡ number_from m rest
  unfolding appended_of number_from
  further m rest e = pick (is_decimal c) refl (leb (n * 10 + (c - 48)) largest) e
    where
      pick : (s : Bool) → is_decimal c ≡ s → (t : Bool) → cond ((s && true) && t) (Some (n * 10 + (c - 48))) None ≡ Some m → number_from n (c ∷ rest) ≡ number_from m rest
      pick true p true k = let same : n * 10 + (c - 48) ≡ m = cc in rw⁻¹ same (goes_on rest p)
      pick true p false k = cc
      pick false p t k = cc

  pub told_fits : (m : ℕ) → appended_of n c ≡ Some m → m ≤ largest
  unfolding appended_of number_from
  told_fits m e = pick (is_decimal c) (leb (n * 10 + (c - 48)) largest) refl e
    where
      pick : (s t : Bool) → leb (n * 10 + (c - 48)) largest ≡ t → cond ((s && true) && t) (Some (n * 10 + (c - 48))) None ≡ Some m → m ≤ largest
      pick true true q k = let same : n * 10 + (c - 48) ≡ m = cc in rw⁻¹ same (leb-true (n * 10 + (c - 48)) largest q)
      pick true false q k = cc
      pick false t q k = cc

  pub no_further : (rest : List ℕ) → appended_of n c ≡ None → number_from n (c ∷ rest) ≡ None
  unfolding appended_of number_from
  no_further rest e = pick (is_decimal c) refl (leb (n * 10 + (c - 48)) largest) refl e
    where
      pick : (s : Bool) → is_decimal c ≡ s → (t : Bool) → leb (n * 10 + (c - 48)) largest ≡ t → cond ((s && true) && t) (Some (n * 10 + (c - 48))) None ≡ None → number_from n (c ∷ rest) ≡ None
      pick true p true q k = cc
      pick true p false q k = too_large rest (leb-false (n * 10 + (c - 48)) largest q)
      pick false p t q k = no_digit rest p

pub complete : (n : ℕ) → n ≤ largest → Some n ≡ number_from n []
unfolding number_from
complete n h = rw (le-leb n largest h)

-- a number that was read i digits into a word
module _ (word : List ℕ) (n i : ℕ) (h : i < length word) (inv : number_from 0 word ≡ number_from n (drop i word)) where
  pub number_turn : (m : ℕ) → appended_of n (get_or word i 0) ≡ Some m → number_from 0 word ≡ number_from m (drop (i + 1) word)
  number_turn m e = inv ∙ rw (add-one, drop-cons word i 0 h) (further n (get_or word i 0) m (drop (suc i) word) e)

  pub number_stop : appended_of n (get_or word i 0) ≡ None → None ≡ number_of word
  unfolding number_of
  number_stop e = rw (ne_eqb (length word) 0 (λ k. omega arith)) (sym (inv ∙ rw (drop-cons word i 0 h) (no_further n (get_or word i 0) (drop (suc i) word) e)))

pub number_end : (word : List ℕ) (n i : ℕ) → length word ≤ i → eqb (length word) 0 ≡ false → n ≤ largest → number_from 0 word ≡ number_from n (drop i word) → Some n ≡ number_of word
unfolding number_of
number_end word n i h some k inv = rw some (complete n k ∙ sym (inv ∙ rw (drop_of_length-le word h)))

pub no_number : (word : List ℕ) → eqb (length word) 0 ≡ true → None ≡ number_of word
unfolding number_of
no_number word e = rw e
