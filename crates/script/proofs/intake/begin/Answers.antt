-- No character is one word, of which nothing is kept.
use Rattle.std.proofs.Common.{refl}
use Rattle.script.specs.Words.{words_of}
use Rattle.script.specs.Intake.{unled, shortened, kept_of}
use Rattle.script.proofs.intake.begin.Goals as goal

pub returns : goal.returns
unfolding words_of unled shortened kept_of
returns c = λ kept buffer. record { count = λ h. refl; line = refl; start = refl; bytes = c.begin.ensures buffer }
