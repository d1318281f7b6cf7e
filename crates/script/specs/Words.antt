-- The words of a line: the stretches between its spaces, so that two spaces in a row have an empty word between them.
use Rattle.std.specs.Prelude.{ℕ, zero, suc, Bool, true, false, ◌&&◌, cond, Option, Some, None, List, [], ◌∷◌, eqb}

-- a character in front of the first word
abbrev pub in_front : ℕ → List (List ℕ) → List (List ℕ)
in_front c [] = (c ∷ []) ∷ []
in_front c (word ∷ words) = (c ∷ word) ∷ words

unfoldable pub words_of : List ℕ → List (List ℕ)
words_of [] = [] ∷ []
words_of (c ∷ rest) = cond (eqb c 32) ([] ∷ words_of rest) (in_front c (words_of rest))

-- the element with this index, or no characters
abbrev pub nth : ℕ → List (List ℕ) → List ℕ
nth k [] = []
nth zero (word ∷ words) = word
nth (suc k) (word ∷ words) = nth k words

abbrev pub word_at : ℕ → List ℕ → List ℕ
word_at k line = nth k (words_of line)

-- character by character the same
abbrev pub same : List ℕ → List ℕ → Bool
same [] [] = true
same [] (d ∷ ds) = false
same (c ∷ cs) [] = false
same (c ∷ cs) (d ∷ ds) = eqb c d && same cs ds

-- the index of the first name that is the word, or how many there are
abbrev pub place_of : List ℕ → List (List ℕ) → ℕ
place_of word [] = zero
place_of word (name ∷ names) = cond (same word name) zero (suc (place_of word names))

-- what stands beside the first of these that is the word
abbrev pub beside : {A : Type 0} → List ℕ → List (List ℕ × A) → Option A
beside word [] = None
beside word (row ∷ rows) = cond (same word row.0) (Some row.1) (beside word rows)
