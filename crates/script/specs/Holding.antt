-- What is kept of a line, by what stands in front of its last word and what is kept of that word.
use Rattle.std.specs.Prelude.{ℕ, ◌+◌, ◌<◌, min, ◌≡◌, Bool, not, List, ◌++◌, eqb, length, take}
use Rattle.laws.specs.Lists.{all}

-- the first 136 of both are kept; a word that begins among them is known by its length
pub record Holds (front word : List ℕ) (end from : ℕ) (kept : List ℕ) : Type 0 where
  pub count : from < 136 → end ≡ length front + length word
  pub line : take end kept ≡ take 136 (front ++ word)
  pub start : from ≡ min 136 (length front)

-- characters of one word
abbrev pub unspaced : List ℕ → Bool
unspaced run = all (λ c. not (eqb c 32)) run
