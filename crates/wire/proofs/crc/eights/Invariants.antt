-- The eights that are left take the register, which the wide one stands for, to where all of them take all ones.
use Rattle.std.proofs.Common.{◌≡◌, drop}
use Rattle.std.specs.List.{concat}
use Rattle.wire.specs.Crc.{after, sent, g16}
use Rattle.wire.specs.Wide.{settled}
use Rattle.wire.proofs.crc.eights.Given as goal

abbrev pub invariant-loop-bytes : goal.invariant-loop-bytes
invariant-loop-bytes l = after g16 (settled l.wide) (sent (concat (drop l.bytes-index l.p))) ≡ after g16 65535 (sent (concat l.p))
