-- What was played so far is so many packets, each with its timeout.
use Rattle.std.proofs.Common.{◌≡◌}
use Rattle.exported.specs.Traffic.{waited}
use Rattle.exported.proofs.Turns.{left}
use Rattle.exported.proofs.traffic.waits.Given as goal

abbrev pub invariant-loop : goal.invariant-loop
invariant-loop l = left l.core l.sum l.memory l.reply ≡ waited l.packet l.counter (left l.initial.core l.initial.sum l.initial.memory l.initial.reply)
