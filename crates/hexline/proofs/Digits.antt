-- What a digit is worth, and what is told of two characters. Assumes nothing.
use Prim.Native.Nat.{ℕ, ◌+◌, ◌-◌, ◌≤◌, ◌<◌}
use native.Mathlib.Omega.{arith}
use mathlib.Core.Path.{◌≡◌, refl}
use mathlib.Core.Bool.{Bool, true, false, ◌&&◌, cond, and-false, false≢true}
use lib.Dec.{leb}
use borrow.Author.Tests.{lt-leb, leb-true, leb-false}
use Rattle.std.proofs.Common.{Some, None}
use Rattle.hexline.specs.Digits.{within, is_digit, value_of, byte_of, pair_of}

module _ (c : ℕ) where
  -- no range reaches past f
  past : 102 < c → is_digit c ≡ false
  unfolding is_digit
  past h = rw (lt-leb c 57 (omega arith), lt-leb c 70 (omega arith), lt-leb c 102 h, and-false (leb 48 c), and-false (leb 65 c), and-false (leb 97 c))

  last : is_digit c ≡ true → c ≤ 102
  last e = pick (leb c 102) refl
    where
      pick : (t : Bool) → leb c 102 ≡ t → c ≤ 102
      pick true h = leb-true c 102 h
      pick false h = absurd (false≢true (rw (past (leb-false c 102 h)) at e))

  pub small : is_digit c ≡ true → value_of c < 16
  unfolding value_of
  small e = let k : c ≤ 102 = last e in pick (leb c 57) refl (leb c 70) refl
    where
      pick : (s : Bool) → leb c 57 ≡ s → (t : Bool) → leb c 70 ≡ t → cond s (c - 48) (cond t (c - 65 + 10) (c - 97 + 10)) < 16
      pick true p t q = omega (arith, leb-true c 57 p)
      pick false p true q = omega (arith, leb-true c 70 q)
      pick false p false q = omega (arith, last e)

module _ (high low : ℕ) where
  pub joined : (b : ℕ) → pair_of high low ≡ Some b → ((is_digit high && is_digit low) ≡ true) × (b ≡ byte_of high low)
  unfolding pair_of
  joined b e = pick (is_digit high && is_digit low) e
    where
      pick : (t : Bool) → cond t (Some (byte_of high low)) None ≡ Some b → (t ≡ true) × (b ≡ byte_of high low)
      pick true k = (refl, (cc))
      pick false k = cc

  pub unjoined : pair_of high low ≡ None → (is_digit high && is_digit low) ≡ false
  unfolding pair_of
  unjoined e = pick (is_digit high && is_digit low) e
    where
      pick : (t : Bool) → cond t (Some (byte_of high low)) None ≡ None → t ≡ false
      pick true k = cc
      pick false k = refl
