-- The place of the first line's end is that of the first byte 10.
use Rattle.std.proofs.Common.{rules, tests, ◌+◌, eqb, sym, ◌∙◌}
use Rattle.std.proofs.lemmas.Iterator.{YieldsList-from_slice}
use Rattle.std.proofs.lemmas.Iterator.Search.{position_from_yields_List}
use Rattle.lines.proofs.Cutting.{all_behind, uncut, cut_at}
use Rattle.lines.proofs.cut.Goals as goal

pub returns-in-Some : goal.returns-in-Some
returns-in-Some c =
    cut_at c.args.text.now c.in-Some.end _ (sym c.in-Some.is ∙ position_from_yields_List (λ x. eqb x 10) _ _ _ c.position.ensures.ran (YieldsList-from_slice _ c.iter.ensures.rest) (λ x b q k. search (rules, tests)))
    (all_behind c.args.text.now (c.in-Some.end + 1))

pub returns-in-None : goal.returns-in-None
returns-in-None c =
    uncut c.args.text.now (sym c.in-None.is ∙ position_from_yields_List (λ x. eqb x 10) _ _ _ c.position.ensures.ran (YieldsList-from_slice _ c.iter.ensures.rest) (λ x b q k. search (rules, tests)))
