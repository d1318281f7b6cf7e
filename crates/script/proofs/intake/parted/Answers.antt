-- What was kept, and a space, stand in front of a word without characters.
use Rattle.std.proofs.Common.{◌≡◌, length, arith}
use Rattle.script.proofs.Keeping.{next_word}
use Rattle.script.proofs.intake.parted.Goals as goal

pub returns-clause-held : goal.returns-clause-held
returns-clause-held c =
    λ front word h.
    let size : length c.args.kept.now ≡ 136 = omega arith in
    rw c.keep-start.ensures.1 (next_word front word _ _ _ h size 32 _ (rw size at c.keep-start.ensures.0))
