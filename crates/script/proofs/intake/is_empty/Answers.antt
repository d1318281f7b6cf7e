-- Of a line with a character at least one is kept.
use Rattle.script.proofs.Standing.{nothing_taken}
use Rattle.script.proofs.intake.is_empty.Goals as goal

pub returns : goal.returns
returns c = λ taken kept buffer h. nothing_taken taken _ kept buffer h
