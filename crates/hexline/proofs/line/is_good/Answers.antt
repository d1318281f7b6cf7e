-- The pairs taken are good, and no line of another state.
use Rattle.std.proofs.Common.{sym}
use Rattle.hexline.proofs.Lines.{others_not_good}
use Rattle.hexline.proofs.line.is_good.Goals as goal

pub returns-in_default : goal.returns-in_default
returns-in_default c = λ taken buffer h. sym (others_not_good taken buffer c.args.line c.in_default.not-Pairs h)
