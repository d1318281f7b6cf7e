-- Each turn takes one digit more, and what is told of a digit is told of every word that goes on with it.
use Rattle.std.proofs.Common.{sym, ◌∙◌}
use Rattle.script.proofs.Numerals.{told_fits, number_turn, number_stop, number_end, no_number}
use Rattle.script.proofs.number.as_number.Goals as goal

pub returns-then-is_empty : goal.returns-then-is_empty
returns-then-is_empty c = no_number _ (sym c.if-is_empty.ensures)

pub returns-in_err-value : goal.returns-in_err-value
returns-in_err-value c =
    c.from_residual.ensures
    ∙ number_stop c.args.word.now _ _ c.loop-c-test.true c.loop-c.invariant.1 (sym c.appended.ensures ∙ c.in_err-value.was)

pub loop-c-preserved : goal.loop-c-preserved
loop-c-preserved c =
    let told = sym c.appended.ensures ∙ c.in_ok-value.was in
    (told_fits _ _ _ told, number_turn c.args.word.now _ _ c.loop-c-test.true c.loop-c.invariant.1 _ told)

pub returns : goal.returns
returns c = number_end c.args.word.now _ _ c.loop-c-test.false (sym c.if-is_empty.ensures) c.loop-c.invariant.0 c.loop-c.invariant.1
