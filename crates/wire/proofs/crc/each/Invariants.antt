-- The bytes that are left take the register to where all of them take it.
use Rattle.std.proofs.Common.{◌≡◌, drop}
use Rattle.wire.specs.Crc.{after, sent, g16}
use Rattle.wire.proofs.crc.each.Given as goal

abbrev pub invariant-loop-b : goal.invariant-loop-b
invariant-loop-b l = after g16 l.r (sent (drop l.b-index l.p)) ≡ after g16 l.r0 (sent l.p)
