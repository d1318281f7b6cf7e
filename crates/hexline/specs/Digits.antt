-- Bytes as pairs of hexadecimal digits.
use Rattle.std.specs.Prelude.{ℕ, ◌+◌, ◌-◌, ◌*◌, ◌/◌, ◌%◌, Bool, ◌&&◌, ◌||◌, cond, Option, Some, None, List, [], ◌∷◌, leb, ltb}
use Rattle.laws.specs.Lists.{first_of, gather}

-- a character from a to b
abbrev pub within : ℕ → ℕ → ℕ → Bool
within a b c = leb a c && leb c b

-- 0 to 9, A to F, a to f
unfoldable pub is_digit : ℕ → Bool
is_digit c = within 48 57 c || (within 65 70 c || within 97 102 c)

-- what a digit stands for
unfoldable pub value_of : ℕ → ℕ
value_of c = first_of ((leb c 57, c - 48) ∷ (leb c 70, c - 65 + 10) ∷ []) (c - 97 + 10)

unfoldable pub digit_of : ℕ → Option ℕ
digit_of c = cond (is_digit c) (Some (value_of c)) None

-- two digits, the higher first
unfoldable pub byte_of : ℕ → ℕ → ℕ
byte_of high low = value_of high * 16 + value_of low

unfoldable pub pair_of : ℕ → ℕ → Option ℕ
pair_of high low = cond (is_digit high && is_digit low) (Some (byte_of high low)) None

-- the digit of a number below 16, in upper case
unfoldable pub glyph_of : ℕ → ℕ
glyph_of n = cond (ltb n 10) (48 + n) (55 + n)

-- the digits of each byte
unfoldable pub spelt_of : List ℕ → List ℕ
spelt_of bytes = gather (λ b. glyph_of (b / 16) ∷ glyph_of (b % 16) ∷ []) bytes
