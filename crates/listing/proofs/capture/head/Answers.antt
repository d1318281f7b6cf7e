-- The numbers are stored one behind the other.
use Rattle.std.proofs.Common.{ℕ, ◌/◌, ◌%◌, List, [], ◌∷◌, arith}
use Rattle.listing.specs.Capture.{head_of}
use Rattle.listing.proofs.Numbers.{from_the_first}
use Rattle.listing.proofs.capture.head.Goals as goal

pub returns : goal.returns
unfolding head_of
returns c =
    let a = c.args in
    let ns : List ℕ = a.stamp / 1000000 ∷ a.stamp % 1000000 ∷ a.kept ∷ a.original ∷ [] in
    rw (c.number-4.ensures, c.number-3.ensures, c.number-2.ensures, c.number.ensures) (from_the_first a.buffer.now ns (omega arith))
