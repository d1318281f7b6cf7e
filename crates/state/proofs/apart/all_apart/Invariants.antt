-- What is left of the list is what is left to test.
use Rattle.std.proofs.Common.{◌≡◌, length}
use Rattle.laws.specs.Lists.{pairs}
use Rattle.state.proofs.apart.all_apart.Given as goal

abbrev pub invariant-loop-first : goal.invariant-loop-first
invariant-loop-first g l = pairs g.T.Apart.are_apart l.fn.items ≡ pairs g.T.Apart.are_apart l.rest

abbrev pub decreases-loop-first : goal.decreases-loop-first
decreases-loop-first g l = length l.rest
