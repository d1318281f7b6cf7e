-- A line's end that was met is answered, whatever is behind it.
use Rattle.lines.proofs.Reading.{on_err, stop_behind}
use Rattle.lines.proofs.feed.Goals as goal

pub returns-in_err-answered-clause-stopped : goal.returns-in_err-answered-clause-stopped
returns-in_err-answered-clause-stopped g c =
    on_err c.from_residual.result (c.loop-rest.invariant.1 _ (rw c.in-Some.is (stop_behind _ _ c.in-Some.behind.now _ _ c.answered.ensures)))
