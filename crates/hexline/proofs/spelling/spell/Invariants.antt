-- After i turns the first i bytes are spelt, and the text behind them is as it was.
use Rattle.std.proofs.Common.{◌≡◌, ◌*◌, ◌++◌, take, drop}
use Rattle.hexline.specs.Digits.{spelt_of}
use Rattle.hexline.proofs.spelling.spell.Given as goal

abbrev pub invariant-loop-i : goal.invariant-loop-i
invariant-loop-i l = l.text ≡ spelt_of (take l.i l.bytes) ++ drop (2 * l.i) l.initial.text
