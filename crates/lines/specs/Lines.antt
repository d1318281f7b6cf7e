-- What a taker of lines is given, call by call. Assumes nothing.
use Rattle.std.specs.Prelude.{ℕ, ◌≡◌, suc, ◌≤◌, ◌⊎◌, Option, Some, None, List, [], ◌∷◌, eqb, length}
use Rattle.std.specs.Borrow.{Bor}
use Rattle.std.specs.List.{slice_split}

-- the parts of a text between its line ends
abbrev pub parts_of : List ℕ → List (List ℕ)
parts_of text = slice_split (λ c. eqb c 10) text

-- the parts of what is behind a line's end, none where no line ends
abbrev pub rest_of : Option (Bor (List ℕ)) → List (List ℕ)
rest_of None = []
rest_of (Some behind) = parts_of behind.now

-- one more than its length
abbrev pub rest_length : Option (Bor (List ℕ)) → ℕ
rest_length None = 0
rest_length (Some behind) = suc (length behind.now)

-- a text's first part, and what is behind it
pub record Cut (text part : List ℕ) (rest : Option (Bor (List ℕ))) : Type 0 where
  pub parts : parts_of text ≡ part ∷ rest_of rest
  pub shorter : rest_length rest ≤ length text

module _ {T : Type 0} (taken : T → List ℕ → T → Type 0) (answered : T → T → Type 0) where
  -- in front of each of these parts a line ends: it is answered, and then the part is taken
  abbrev pub Behind : T → List (List ℕ) → T → Type 0
  Behind before [] after = before ≡ after
  Behind before (part ∷ parts) after = (begun : T) × (next : T) × answered before begun × taken begun part next × Behind next parts after

  -- the first part belongs to the line that was begun
  abbrev pub Fed : T → List (List ℕ) → T → Type 0
  Fed before [] after = before ≡ after
  Fed before (part ∷ parts) after = (next : T) × taken before part next × Behind next parts after

  -- the same as far as an answer: the parts behind that line's end are not taken
  abbrev pub BehindPart : T → List (List ℕ) → T → Type 0
  BehindPart before [] after = ⊥
  BehindPart before (part ∷ parts) after = answered before after ⊎ ((begun : T) × (next : T) × answered before begun × taken begun part next × BehindPart next parts after)

  abbrev pub FedPart : T → List (List ℕ) → T → Type 0
  FedPart before [] after = ⊥
  FedPart before (part ∷ parts) after = (next : T) × taken before part next × BehindPart next parts after

  -- text after text
  abbrev pub Read : T → List (List ℕ) → T → Type 0
  Read before [] after = before ≡ after
  Read before (text ∷ texts) after = (next : T) × Fed before (parts_of text) next × Read next texts after

  -- the last of these texts as far as an answer
  abbrev pub ReadPart : T → List (List ℕ) → T → Type 0
  ReadPart before [] after = ⊥
  ReadPart before (text ∷ texts) after = FedPart before (parts_of text) after ⊎ ((next : T) × Fed before (parts_of text) next × ReadPart next texts after)
