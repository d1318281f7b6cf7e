-- Whatever takes what is left has taken all, and what stops in it has stopped in all.
use Rattle.lines.specs.Lines.{parts_of, rest_of, rest_length, Behind, BehindPart, Fed, FedPart}
use Rattle.lines.proofs.feed.Given as goal

abbrev pub invariant-loop-rest : goal.invariant-loop-rest
invariant-loop-rest g l =
    ((after : _) → Behind g.T.Taker.taken_gives g.T.Taker.answered_gives l.taker (rest_of l.rest) after
    → Fed g.T.Taker.taken_gives g.T.Taker.answered_gives l.fn.taker (parts_of l.fn.text) after)
    × ((after : _) → BehindPart g.T.Taker.taken_gives g.T.Taker.answered_gives l.taker (rest_of l.rest) after
    → FedPart g.T.Taker.taken_gives g.T.Taker.answered_gives l.fn.taker (parts_of l.fn.text) after)

abbrev pub decreases-loop-rest : goal.decreases-loop-rest
decreases-loop-rest g l = rest_length l.rest
