-- What is gathered passes a test where each record's part of it does.
use Rattle.std.proofs.Common.{◌∙◌, sym, rules}
use Rattle.std.proofs.lemmas.Iterator.{YieldsList-from_slice}
use Rattle.std.proofs.lemmas.Iterator.Search.{all_from_yields_List}
use Rattle.laws.specs.Lists.{all}
use Rattle.laws.proofs.Lists.{all_gather}
use Rattle.state.specs.Spans.{span_from, apart, spans_of}
use Rattle.state.proofs.spans.is_clear.Goals as goal

pub returns : goal.returns
returns c =
    let f = apart (span_from c.args.from c.args.count) in
    all_from_yields_List (λ r. all f (spans_of r)) _ _ _ c.all.ensures.ran (YieldsList-from_slice c.args.records cc) (λ x b q k. search rules) ∙ sym (all_gather f spans_of c.args.records)
