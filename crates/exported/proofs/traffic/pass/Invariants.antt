-- The packets that are left are still to play, and each turn goes past a packet's two bytes of length.
use Rattle.std.proofs.Common.{length}
use Rattle.exported.specs.Traffic.{played_once}
use Rattle.exported.proofs.Turns.{From, left}
use Rattle.exported.proofs.traffic.pass.Given as goal

abbrev pub invariant-loop-left : goal.invariant-loop-left
invariant-loop-left l = From l.left (left l.core l.sum l.memory l.reply) (played_once (left l.initial.core l.initial.sum l.initial.memory l.initial.reply) l.fn.list)

abbrev pub decreases-loop-left : goal.decreases-loop-left
decreases-loop-left l = length l.left
