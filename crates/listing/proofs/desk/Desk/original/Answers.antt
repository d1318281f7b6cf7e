-- A byte is two characters.
use Rattle.std.proofs.Common.{arith}
use Rattle.listing.proofs.Calls.{length_bytes}
use Rattle.listing.proofs.desk.Desk.original.Goals as goal

pub returns : goal.returns
returns c = λ line t. omega (arith, t.sized, length_bytes line)
