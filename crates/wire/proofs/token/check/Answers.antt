-- antt computes the 2,048 checks, and they are the table's entries.
use Rattle.laws.proofs.Table.{lookup}
use Rattle.wire.specs.Crc.{step, after, bits, check, crc5}
use Rattle.wire.proofs.token.check.Goals as goal

pub returns : goal.returns
unfolding step after bits check
returns c = lookup crc5 0 2048 c.args.bits c.requires
