-- The last of eight words begins among what is kept, and what is kept of it tells "-" from every other word.
use Rattle.std.proofs.Common.{sym, ◌∙◌}
use Rattle.script.proofs.Standing.{holds, good_bytes, other_bytes}
use Rattle.script.proofs.intake.is_bytes.Goals as goal

pub returns-then-is_good : goal.returns-then-is_good
returns-then-is_good c = λ taken buffer h few. good_bytes taken _ _ buffer h few (sym (c.is_good.ensures _ buffer h.bytes) ∙ c.if-is_good.true)

pub returns : goal.returns
returns c =
    λ taken buffer h few.
    other_bytes taken _ _ buffer h few _ (sym (c.is_good.ensures _ buffer h.bytes) ∙ c.if-is_good.false) (c.is_only.ensures _ _ (holds taken _ _ buffer h))
