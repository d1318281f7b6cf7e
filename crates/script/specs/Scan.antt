-- The place of a byte in a list.
use Rattle.std.specs.Prelude.{ℕ, zero, suc, Bool, true, false, List, [], ◌∷◌, eqb}

-- where the first element is the byte, its place is 0, else one more than in the rest
unfoldable pub index_after : Bool → ℕ → ℕ
index_after true n = zero
index_after false n = suc n

-- how many elements stand in front of the first such byte, or how many there are
unfoldable pub index_of : ℕ → List ℕ → ℕ
index_of byte [] = zero
index_of byte (c ∷ rest) = index_after (eqb c byte) (index_of byte rest)
