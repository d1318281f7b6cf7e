-- A number: decimal, 0 to 4,294,967,295, without sign; leading zeros do no harm.
use Rattle.std.specs.Prelude.{ℕ, ◌+◌, ◌-◌, ◌*◌, Bool, ◌&&◌, cond, Option, Some, None, List, [], ◌∷◌, eqb, leb, length}
use Rattle.laws.specs.Lists.{all}

-- 0 to 9
unfoldable pub is_decimal : ℕ → Bool
is_decimal c = leb 48 c && leb c 57

-- the number n with these digits behind it
abbrev pub value_from : ℕ → List ℕ → ℕ
value_from n [] = n
value_from n (c ∷ rest) = value_from (n * 10 + (c - 48)) rest

-- the largest number
abbrev pub largest : ℕ
largest = 4294967295

-- digits behind n, and what they give is in range
unfoldable pub number_from : ℕ → List ℕ → Option ℕ
number_from n word = cond (all is_decimal word && leb (value_from n word) largest) (Some (value_from n word)) None

-- at least one digit
unfoldable pub number_of : List ℕ → Option ℕ
number_of word = cond (eqb (length word) 0) None (number_from 0 word)

-- one digit behind n
unfoldable pub appended_of : ℕ → ℕ → Option ℕ
appended_of n c = number_from n (c ∷ [])
