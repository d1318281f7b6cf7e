-- A line as the list of its characters: whether it is good, its bytes, and what a state of the reader says of the characters taken.
use Rattle.std.specs.Prelude.{ℕ, ◌%◌, ◌≡◌, Bool, true, false, ◌&&◌, List, [], ◌∷◌, ◌++◌, eqb, length, take}
use Rattle.laws.specs.Lists.{all}
use Rattle.hexline.specs.Digits.{is_digit, byte_of}
use Rattle.hexline.specs.declared.line.Line.{Line}
use Rattle.hexline.specs.declared.line.Line.TheVariants.{Pairs, Half, Bad}

-- an even number of characters, each of them a digit
unfoldable pub is_good : List ℕ → Bool
is_good line = eqb (length line % 2) 0 && all is_digit line

-- the pairs in order; a character left over gives none
unfoldable pub bytes_of : List ℕ → List ℕ
bytes_of [] = []
bytes_of (x ∷ []) = []
bytes_of (high ∷ low ∷ rest) = byte_of high low ∷ bytes_of rest

-- those of them that a buffer has room for
abbrev pub kept_of : List ℕ → List ℕ → List ℕ
kept_of buffer line = take (length buffer) (bytes_of line)

-- the characters taken are good, and the first n of the buffer are the bytes kept
pub record Paired (taken : List ℕ) (n : ℕ) (buffer : List ℕ) : Type 0 where
  pub good : is_good taken ≡ true
  pub count : n ≡ length (kept_of buffer taken)
  pub bytes : take n buffer ≡ kept_of buffer taken

-- what a state of the reader says of the characters taken. Bad: no line that begins with them is good
abbrev pub Stands : List ℕ → Line → List ℕ → Type 0
Stands taken (Pairs n) buffer = Paired taken n buffer
Stands taken (Half n c) buffer = (pairs : List ℕ) × (taken ≡ pairs ++ (c ∷ [])) × Paired pairs n buffer
Stands taken Bad buffer = (more : List ℕ) → is_good (taken ++ more) ≡ false
