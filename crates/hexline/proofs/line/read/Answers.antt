-- Each turn takes one character more of the part.
use Rattle.hexline.proofs.Lines.{one_more, whole_part}
use Rattle.hexline.proofs.line.read.Goals as goal

pub loop-c-preserved : goal.loop-c-preserved
loop-c-preserved c = λ taken h. rw (one_more taken c.args.part.now c.loop-c.c-index c.loop-c-test.true) at (c.next-state.ensures _ (c.loop-c.invariant taken h))

pub returns : goal.returns
returns c = λ taken h. rw (whole_part taken _ _ c.loop-c-test.false) at (c.loop-c.invariant taken h)
