-- What is judged good has at least three bytes; of any other the payload is the empty front.
use Rattle.std.proofs.Common.{Some, None, sym, refl}
use Rattle.wire.proofs.Reading.{passed, found_read}
use Rattle.wire.proofs.data.read.Goals as goal

pub cut-requires : goal.cut-requires
cut-requires c = (passed c.args.bytes.now (sym c.in-Some.ensures)).least

pub returns-in-Some : goal.returns-in-Some
returns-in-Some c = found_read c.args.bytes.now c.args.bytes.ref_ptr _ (Some c.in-Some.kind) refl (sym c.in-Some.ensures) c.cut.ensures.0 c.cut.ensures.1

pub returns-in-None : goal.returns-in-None
returns-in-None c = found_read c.args.bytes.now c.args.bytes.ref_ptr _ None refl (sym c.in-None.ensures) refl refl
