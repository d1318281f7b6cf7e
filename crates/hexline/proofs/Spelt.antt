-- Bytes spelt one after the other, and read back. Assumes nothing.
use Prim.Native.Nat.{ℕ, ◌+◌, ◌*◌, ◌/◌, ◌%◌, ◌≤◌, ◌<◌}
use native.Mathlib.Omega.{arith}
use native.Mathlib.Numerals.{add-one}
use mathlib.Core.Path.{◌≡◌, refl, ap, ◌∙◌}
use mathlib.Core.Bool.{true}
use mathlib.Core.List.{List, [], ◌∷◌, ◌++◌}
use lib.Dec.{ltb}
use lib.ListN.{length, get_or, take, drop, set}
use lib.Seq.{take-suc, length-take-le}
use borrow.Author.Tests.{ltb-true, eq-eqb}
use Rattle.laws.specs.Lists.{all}
use Rattle.laws.proofs.Bools.{both}
use Rattle.laws.proofs.Lists.{all_append, gather_append}
use Rattle.laws.proofs.Parts.{store_behind}
use Rattle.laws.proofs.Table.{same_values}
use Rattle.hexline.specs.Digits.{is_digit, value_of, byte_of, glyph_of, spelt_of}
use Rattle.hexline.specs.Line.{is_good, bytes_of}

abbrev digits_of : ℕ → List ℕ
digits_of b = glyph_of (b / 16) ∷ glyph_of (b % 16) ∷ []

pub spelt_length : (bytes : List ℕ) → length (spelt_of bytes) ≡ 2 * length bytes
unfolding spelt_of
spelt_length [] = refl
spelt_length (b ∷ bytes) = omega (arith, spelt_length bytes)

module _ (bytes out : List ℕ) (i : ℕ) where
  -- byte i is spelt behind those before it
  pub spelt_more : i < length bytes → 2 * length bytes ≤ length out
      → set (set (spelt_of (take i bytes) ++ drop (2 * i) out) (2 * i) (glyph_of (get_or bytes i 0 / 16))) (2 * i + 1) (glyph_of (get_or bytes i 0 % 16))
      ≡ spelt_of (take (i + 1) bytes) ++ drop (2 * (i + 1)) out
  unfolding spelt_of
  spelt_more h room =
      let b = get_or bytes i 0 in
      let p = spelt_of (take i bytes) in
      let n : length p ≡ 2 * i = spelt_length (take i bytes) ∙ ap (2 *◌) (length-take-le i bytes (omega arith)) in
      let more : spelt_of (take (i + 1) bytes) ≡ p ++ digits_of b = rw (add-one i, take-suc bytes i 0 h) (gather_append digits_of (take i bytes) (b ∷ [])) in
      let two : length p + 2 ≡ 2 * (i + 1) = omega arith in
      rw (more, ← two, ← n, add-one (length p)) (store_behind p (digits_of b) out (omega arith))

-- ---- the round trip

byte_back : (b : ℕ) → b < 256 → byte_of (glyph_of (b / 16)) (glyph_of (b % 16)) ≡ b
unfolding byte_of value_of glyph_of
byte_back = same_values (λ b. byte_of (glyph_of (b / 16)) (glyph_of (b % 16))) (λ b. b) 256 refl

digits_back : (b : ℕ) → b < 256 → all is_digit (digits_of b) ≡ true
unfolding is_digit glyph_of
digits_back = same_values (λ b. all is_digit (digits_of b)) (λ b. true) 256 refl

spelt_digits : (bytes : List ℕ) → all (λ b. ltb b 256) bytes ≡ true → all is_digit (spelt_of bytes) ≡ true
unfolding spelt_of
spelt_digits [] e = refl
spelt_digits (b ∷ bytes) e =
    let p = both (ltb b 256) (all (λ b. ltb b 256) bytes) e in
    all_append is_digit (digits_of b) (spelt_of bytes) ∙ rw (digits_back b (ltb-true b 256 p.0), spelt_digits bytes p.1)

-- what is spelt of bytes is a good line
pub spelt_good : (bytes : List ℕ) → all (λ b. ltb b 256) bytes ≡ true → is_good (spelt_of bytes) ≡ true
unfolding is_good
spelt_good bytes e =
    let n : length (spelt_of bytes) % 2 ≡ 0 = omega (arith, spelt_length bytes) in
    rw (eq-eqb _ _ n, spelt_digits bytes e)

-- and its bytes are these
pub spelt_back : (bytes : List ℕ) → all (λ b. ltb b 256) bytes ≡ true → bytes_of (spelt_of bytes) ≡ bytes
unfolding bytes_of spelt_of
spelt_back [] e = refl
spelt_back (b ∷ bytes) e =
    let p = both (ltb b 256) (all (λ b. ltb b 256) bytes) e in
    rw (byte_back b (ltb-true b 256 p.0), spelt_back bytes p.1)
