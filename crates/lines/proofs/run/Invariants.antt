-- The texts that were read so far.
use Rattle.std.proofs.Common.{ℕ, List}
use Rattle.lines.specs.Lines.{Read}
use Rattle.lines.proofs.run.Given as goal

abbrev pub invariant-loop : goal.invariant-loop
invariant-loop g l = (texts : List (List ℕ)) × Read g.T.Taker.taken_gives g.T.Taker.answered_gives l.initial.taker texts l.taker
