-- A word that is the one zero gives way to a digit, a short one grows, and a long one stays.
use Rattle.std.proofs.Common.{arith}
use Rattle.script.proofs.Keeping.{word_far}
use Rattle.script.proofs.Standing.{digit_said, nothing_said, character_said}
use Rattle.script.proofs.intake.lengthened.Goals as goal

pub returns-then-start-ge136 : goal.returns-then-start-ge136
returns-then-start-ge136 c = λ front word h. word_far front _ _ _ _ h _ (omega arith)

pub returns-then-is_only-is_decimal : goal.returns-then-is_only-is_decimal
returns-then-is_only-is_decimal c =
    λ front word h.
    digit_said front word _ _ _ _ h c.if-start-ge136.false _ _ (c.is_only.ensures front _ h) c.is_decimal.ensures c.if-is_only-is_decimal.true c.told-kept _ _ c.keep.ensures

pub returns-then-start-length : goal.returns-then-start-length
returns-then-start-length c =
    λ front word h.
    nothing_said front word _ _ _ _ h c.if-start-ge136.false _ _ (c.is_only.ensures front _ h) c.is_decimal.ensures c.if-is_only-is_decimal.false c.if-start-length.true

pub returns : goal.returns
returns c =
    λ front word h.
    character_said front word _ _ _ _ h c.if-start-ge136.false _ _ (c.is_only.ensures front _ h) c.is_decimal.ensures c.if-is_only-is_decimal.false c.if-start-length.false c.told-kept _ c.keep-2.ensures.1
