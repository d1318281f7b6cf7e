-- No character is good, and has no byte.
use Rattle.hexline.proofs.Unique.{bytes_open}
use Rattle.hexline.proofs.line.begin.Goals as goal

pub returns : goal.returns
returns c = bytes_open
