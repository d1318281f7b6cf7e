-- The stretches between the spaces are the words.
use Rattle.std.proofs.Common.{rules, tests, eqb, refl}
use Rattle.std.proofs.lemmas.Iterator.Splits.{YieldsList-from_slice_split}
use Rattle.std.proofs.lemmas.Iterator.Consumers.{nth_from_yields_List}
use Rattle.script.proofs.Splitting.{word_got}
use Rattle.script.proofs.words.word.Goals as goal

pub returns : goal.returns
returns c = rw c.unwrap_or.ensures (word_got _ _ _ _ refl (nth_from_yields_List _ _ _ c.nth.ensures.ran (YieldsList-from_slice_split _ (λ x. eqb x 32) c.args.line.now c.split.ensures.rest c.split.ensures.done c.split.ensures.closure (λ x b q k. search (rules, tests)))))
