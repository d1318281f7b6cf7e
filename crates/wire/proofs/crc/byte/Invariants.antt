-- The bits that are left take the register to where all eight take it.
use Rattle.std.proofs.Common.{◌≡◌, ◌-◌}
use Rattle.wire.specs.Crc.{after, bits, g16}
use Rattle.wire.proofs.crc.byte.Given as goal

abbrev pub invariant-loop : goal.invariant-loop
invariant-loop l = after g16 l.r (bits (8 - l.counter) l.v) ≡ after g16 l.r0 (bits 8 l.b)
