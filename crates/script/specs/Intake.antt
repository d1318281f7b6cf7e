-- A line as it is kept: of each word the first sixteen characters, without the zeros in front of a number. No name and no number in range
-- is longer, so that what is dropped tells no two apart.
use Rattle.std.specs.Prelude.{ℕ, ◌-◌, ◌<◌, min, ◌≡◌, Bool, ◌&&◌, ◌||◌, cond, List, [], ◌∷◌, ◌++◌, map, eqb, ltb, length, take}
use Rattle.hexline.specs.Line.{is_good}
use Rattle.hexline.specs.Line.{Stands as HexStands}
use Rattle.script.specs.Numbers.{is_decimal}
use Rattle.script.specs.Words.{words_of, same}
use Rattle.script.specs.declared.intake.Intake.{Intake}

-- a word without the zeros that a digit follows
unfoldable pub unled : List ℕ → List ℕ
unled [] = []
unled (c ∷ []) = c ∷ []
unled (c ∷ d ∷ rest) = cond (eqb c 48 && is_decimal d) (unled (d ∷ rest)) (c ∷ d ∷ rest)

unfoldable pub shortened : List ℕ → List ℕ
shortened word = take 16 (unled word)

-- words with a space between each two
abbrev pub joined : List (List ℕ) → List ℕ
joined [] = []
joined (word ∷ []) = word
joined (word ∷ next ∷ words) = word ++ (32 ∷ joined (next ∷ words))

abbrev pub last_of : List (List ℕ) → List ℕ
last_of [] = []
last_of (word ∷ []) = word
last_of (word ∷ next ∷ words) = last_of (next ∷ words)

-- the words of a line, each shortened
abbrev pub short_of : List ℕ → List ℕ
short_of line = joined (map shortened (words_of line))

-- eight words and the space behind them have room, and no form of line has more
unfoldable pub kept_of : List ℕ → List ℕ
kept_of line = take 136 (short_of line)

-- bytes: pairs of hexadecimal digits, at least one, or "-" for none
unfoldable pub is_bytes : List ℕ → Bool
is_bytes word = (ltb 0 (length word) && is_good word) || same word (45 ∷ [])

-- what a state of the intake says of the characters taken; a last word that begins among those kept is known by its length, also where it ends
-- behind them
pub record Stands (taken : List ℕ) (intake : Intake) (kept buffer : List ℕ) : Type 0 where
  pub count : intake.start < 136 → intake.length ≡ length (short_of taken)
  pub line : take intake.length kept ≡ kept_of taken
  pub start : intake.start ≡ min 136 (length (short_of taken) - length (shortened (last_of (words_of taken))))
  pub bytes : HexStands (last_of (words_of taken)) intake.bytes buffer
