-- The first is held against the later ones by a chain, and the later ones are what is left.
use Rattle.std.proofs.Common.{◌≡◌, ◌∙◌, ap, rules}
use Rattle.std.specs.List.{list_all}
use Rattle.std.proofs.lemmas.Iterator.{YieldsList-from_slice}
use Rattle.std.proofs.lemmas.Iterator.Search.{all_from_yields_List}
use Rattle.laws.specs.Lists.{pairs}
use Rattle.state.proofs.apart.all_apart.Goals as goal

pub loop-first-preserved : goal.loop-first-preserved
loop-first-preserved g c =
    let f = g.T.Apart.are_apart c.in-Some.first.now in
    let l = c.in-Some.later.now in
    let t : c.all.result ≡ list_all f l = all_from_yields_List f _ _ _ c.all.ensures.ran (YieldsList-from_slice l cc) (λ x b q k. search rules) in
    c.loop-first.invariant ∙ ap (pairs g.T.Apart.are_apart) c.in-Some.ensures.cases.0 ∙ rw (← t, c.if-not-all.false)
