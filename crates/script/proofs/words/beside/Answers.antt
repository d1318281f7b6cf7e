-- Each turn holds the word against one name.
use Rattle.std.proofs.Common.{sym}
use Rattle.script.proofs.Besides.{row_found, row_passed, none_found}
use Rattle.script.proofs.words.beside.Goals as goal

pub returns-then-is : goal.returns-then-is
returns-then-is g c = row_found _ _ c.args.rows.now _ c.loop-name.invariant _ c.loop-name-test.true c.loop-name-item.is (rw c.as_bytes.ensures.value at (sym c.if-is.ensures))

pub loop-name-preserved : goal.loop-name-preserved
loop-name-preserved g c = row_passed _ _ c.args.rows.now _ c.loop-name.invariant _ c.loop-name-test.true c.loop-name-item.is (rw c.as_bytes.ensures.value at (sym c.if-is.ensures))

pub returns : goal.returns
returns g c = none_found _ _ c.args.rows.now _ c.loop-name.invariant c.loop-name-test.false
