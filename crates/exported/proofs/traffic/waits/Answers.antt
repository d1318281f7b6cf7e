-- A turn is a packet and the timeout behind it.
use Rattle.std.proofs.Common.{ap, ◌∙◌}
use Rattle.exported.specs.Traffic.{ran_out}
use Rattle.exported.proofs.Turns.{left, arrives, runs_out, waited_more}
use Rattle.exported.proofs.traffic.waits.Goals as goal

pub loop-preserved : goal.loop-preserved
loop-preserved c =
    let l = c.loop in
    let o = c.packet-arrived in
    let now = left l.core l.sum l.memory l.reply in
    let arrival = arrives l.core l.sum l.memory l.reply c.args.packet.now o.result _ _ _ o.ensures c.summed-sum.ensures in
    let end = runs_out o.result.core c.summed-sum.result _ _ c.timeout-ended.result _ c.timeout-ended.ensures c.summed-sum-in-loop.ensures in
    end ∙ ap ran_out arrival ∙ waited_more c.args.packet.now l.counter _ now l.invariant
