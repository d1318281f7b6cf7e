-- The stretches between the spaces are the words.
use Rattle.std.proofs.Common.{rules, tests, eqb, ap, length, ◌∙◌}
use Rattle.std.proofs.lemmas.Iterator.Splits.{YieldsList-from_slice_split}
use Rattle.std.proofs.lemmas.Iterator.Consumers.{count_from_yields_List}
use Rattle.script.proofs.Splitting.{words_split}
use Rattle.script.proofs.words.count.Goals as goal

pub returns : goal.returns
returns c = count_from_yields_List c.split.result _ c.count.ensures.ran (YieldsList-from_slice_split _ (λ x. eqb x 32) c.args.line.now c.split.ensures.rest c.split.ensures.done c.split.ensures.closure (λ x b q k. search (rules, tests))) ∙ ap length (words_split c.args.line.now)
