-- Each state but that of no pair has taken a character.
use Rattle.std.proofs.Common.{sym}
use Rattle.hexline.proofs.Lines.{paired_empty, others_not_empty}
use Rattle.hexline.proofs.line.is_empty.Goals as goal

pub returns-in-Pairs : goal.returns-in-Pairs
returns-in-Pairs c = λ taken buffer h. paired_empty taken _ buffer (rw c.in-Pairs.is at h)

pub returns-in_default : goal.returns-in_default
returns-in_default c = λ taken buffer h k. sym (others_not_empty taken buffer c.args.line c.in_default.not-Pairs h)
