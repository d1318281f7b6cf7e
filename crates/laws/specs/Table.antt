-- A table as the list of a function's values.
use Rattle.std.specs.Prelude.{ℕ, zero, suc, List, [], ◌∷◌}

-- f at i and at the n - 1 numbers after it
abbrev pub values : {A : Type 0} → (ℕ → A) → ℕ → ℕ → List A
values f i zero = []
values f i (suc n) = f i ∷ values f (suc i) n
