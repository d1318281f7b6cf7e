-- Only pairs are good, and have bytes.
use Rattle.hexline.proofs.Lines.{others_not_good}
use Rattle.hexline.proofs.line.kept.Goals as goal

pub returns-in_default : goal.returns-in_default
returns-in_default c = λ taken h. rw (others_not_good taken c.args.buffer.now c.args.line c.in_default.not-Pairs h)
