-- The record of 1,028 bytes has room.
use Rattle.std.proofs.Common.{arith, length-take}
use Rattle.listing.proofs.output.Capture.recorded.Goals as goal

pub lay-n-requires : goal.lay-n-requires
lay-n-requires g c = rw (c.front.ensures, length-take) (omega arith)
