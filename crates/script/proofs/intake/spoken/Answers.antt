-- Each turn takes one character more of the run into the word.
use Rattle.hexline.proofs.Lines.{one_more, whole_part}
use Rattle.script.proofs.intake.spoken.Goals as goal

pub loop-c-preserved : goal.loop-c-preserved
loop-c-preserved c =
    λ front word h. rw (one_more word c.args.run.now c.loop-c.c-index c.loop-c-test.true) at (c.lengthened-end.ensures front _ (c.loop-c.invariant front word h))

pub returns : goal.returns
returns c = λ front word h. rw (whole_part word c.args.run.now _ c.loop-c-test.false) at (c.loop-c.invariant front word h)
