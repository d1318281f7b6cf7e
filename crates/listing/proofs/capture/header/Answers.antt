-- The numbers are stored one behind the other.
use Rattle.std.proofs.Common.{ℕ, List, [], ◌∷◌, replicate, ◌∙◌, append-nil, arith}
use Rattle.listing.specs.Capture.{header_of}
use Rattle.listing.proofs.Numbers.{from_the_first}
use Rattle.listing.proofs.capture.header.Goals as goal

pub returns : goal.returns
unfolding header_of
returns c =
    let ns : List ℕ = 0xA1B2C3D4 ∷ 0x00040002 ∷ 0 ∷ 0 ∷ 1028 ∷ 294 ∷ [] in
    rw (c.number-6.ensures, c.number-5.ensures, c.number-4.ensures, c.number-3.ensures, c.number-2.ensures, c.number.ensures)
    (from_the_first (replicate 24 0) ns (omega arith) ∙ append-nil _)
