-- The text of this read comes behind those before it, and where a write failed it is the last.
use Rattle.std.proofs.Common.{[], ◌∷◌, ◌++◌, take}
use mathlib.Core.Logic.{inl}
use Rattle.lines.proofs.Reading.{on_err, read_more, stop_more}
use Rattle.lines.proofs.run.Goals as goal

pub loop-preserved : goal.loop-preserved
loop-preserved g c =
    let text = take c.in-Ok.n c.read.new.buf in
    (c.loop.invariant.0 ++ text ∷ [], read_more _ _ c.loop.invariant.0 text _ _ _ c.loop.invariant.1 c.in_ok-feed-in-Ok.ensures.fed)

pub returns-in_err-feed-in-Ok-clause-stopped : goal.returns-in_err-feed-in-Ok-clause-stopped
returns-in_err-feed-in-Ok-clause-stopped g c =
    let text = take c.in-Ok.n c.read.new.buf in
    on_err c.from_residual.result (inl (c.loop.invariant.0 ++ text ∷ [], stop_more _ _ c.loop.invariant.0 text _ _ _ c.loop.invariant.1 c.in_err-feed-in-Ok.ensures.stopped))
