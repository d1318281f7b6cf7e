-- A turn plays the first packet of what is left, and where none is left the whole list was played.
use Rattle.std.proofs.Common.{arith}
use Rattle.exported.proofs.Cutting.{cut_part}
use Rattle.exported.proofs.Turns.{left, arrives, from_more, from_none}
use Rattle.exported.proofs.traffic.pass.Goals as goal

pub loop-left-preserved : goal.loop-left-preserved
loop-left-preserved c =
    let l = c.loop-left in
    let cut = cut_part l.left.now (omega arith) c.from_le_bytes-said.result c.min.result (omega arith) _ _ (omega arith) c.split_at.ensures.front c.split_at.ensures.back in
    let next = arrives l.core l.sum l.memory l.reply _ c.packet-o.result _ _ _ c.packet-o.ensures c.summed-sum.ensures in
    rw next (from_more l.left.now (left l.core l.sum l.memory l.reply) _ l.invariant (omega arith) _ _ cut.0 cut.1)

pub returns : goal.returns
returns c = let l = c.loop-left in from_none l.left.now (left l.core l.sum l.memory l.reply) _ l.invariant c.in_default.len_below
