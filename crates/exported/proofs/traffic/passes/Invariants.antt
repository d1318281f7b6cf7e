-- What was played so far is the list so many times.
use Rattle.std.proofs.Common.{◌≡◌}
use Rattle.exported.specs.Traffic.{beside, played_times}
use Rattle.exported.proofs.traffic.passes.Given as goal

abbrev pub invariant-loop : goal.invariant-loop
invariant-loop l = beside l.now l.memory l.reply ≡ played_times l.maximum l.list l.counter (beside l.initial.now l.initial.memory l.initial.reply)
