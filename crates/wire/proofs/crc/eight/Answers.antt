-- A number's bytes are those that it was read from, each below 256.
use Rattle.std.proofs.Common.{rules}
use Rattle.wire.proofs.Wide.{own_bits}
use Rattle.wire.proofs.crc.eight.Goals as goal

pub returns : goal.returns
returns c = own_bits c.args.bytes c.from_le_bytes.result (search rules) (λ k. search rules) c.from_le_bytes.ensures
