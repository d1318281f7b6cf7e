-- The text of an answer, as it begins. Assumes nothing.
use Rattle.std.specs.Prelude.{ℕ, ◌≡◌, List}

-- nothing is written, over this memory
pub record Empty (length : ℕ) (bytes memory : List ℕ) : Type 0 where
  pub none_written : length ≡ 0
  pub memory_is : bytes ≡ memory
