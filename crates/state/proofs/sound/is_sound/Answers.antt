-- The walk tests every record and gathers every end and span, and the pairs of those are tested after it.
use Rattle.std.proofs.Common.{◌≡◌, ◌∙◌, sym, rules, length, ◌&&◌}
use Rattle.laws.specs.Lists.{pairs}
use Rattle.state.specs.Update.{record_at}
use Rattle.state.specs.Served.{elsewhere}
use Rattle.state.specs.Spans.{apart}
use Rattle.state.proofs.Survey.{both_within, survey_live, survey_off, stop_live, stop_off, survey_end}
use Rattle.state.proofs.sound.is_sound.Goals as goal
use Rattle.state.proofs.sound.is_sound.Goals.{then-is_live+else-not-live_fits, else-is_live+else-not-is_zero, then-all_apart, else-all_apart}

pub span_of-requires : goal.span_of-requires
span_of-requires c =
    let a = c.args.core in
    (both_within a.memory_size a.speed (record_at a c.loop-r.r-index) (sym c.live_fits.ensures ∙ c.if-not-live_fits.false)).0

pub span_of-requires-then-is_live : goal.span_of-requires-then-is_live
span_of-requires-then-is_live c =
    let a = c.args.core in
    (both_within a.memory_size a.speed (record_at a c.loop-r.r-index) (sym c.live_fits.ensures ∙ c.if-not-live_fits.false)).1

pub loop-r-preserved : goal.loop-r-preserved
loop-r-preserved c =
    let a = c.args.core in
    let l = c.loop-r in
    let s : length a.records ≡ 16 = search rules in
    elim c.if-is_live.branch [
      | then-is_live+else-not-live_fits w ↦ rw (w.ends-is, w.spans-is, w.push.ensures, w.extend-then-is_live.ensures, w.extend.ensures, w.end_of.ensures, w.span_of.ensures, w.span_of-then-is_live.ensures) (survey_live a s l.ends l.spans l.r-index l.invariant c.loop-r-test.true (sym c.is_live.ensures ∙ w.if-is_live.true) (sym w.live_fits.ensures ∙ w.if-not-live_fits.false))
      | else-is_live+else-not-is_zero w ↦ rw (w.ends-is, w.spans-is) (survey_off a s l.ends l.spans l.r-index l.invariant c.loop-r-test.true (sym c.is_live.ensures ∙ w.if-is_live.false) (sym w.is_zero.ensures ∙ w.if-not-is_zero.false))
    ]

pub returns-then-not-live_fits : goal.returns-then-not-live_fits
returns-then-not-live_fits c =
    let a = c.args.core in
    let l = c.loop-r in
    let s : length a.records ≡ 16 = search rules in
    sym (stop_live a s l.ends l.spans l.r-index l.invariant c.loop-r-test.true c.if-core-gt131072.false c.if-core-gt127.false (sym c.is_live.ensures ∙ c.if-is_live.true) (sym c.live_fits.ensures ∙ c.if-not-live_fits.true))

pub returns-then-not-is_zero : goal.returns-then-not-is_zero
returns-then-not-is_zero c =
    let a = c.args.core in
    let l = c.loop-r in
    let s : length a.records ≡ 16 = search rules in
    sym (stop_off a s l.ends l.spans l.r-index l.invariant c.loop-r-test.true c.if-core-gt131072.false c.if-core-gt127.false (sym c.is_live.ensures ∙ c.if-is_live.false) (sym c.is_zero.ensures ∙ c.if-not-is_zero.true))

pub returns-then-all_apart-2 : goal.returns-then-all_apart-2
returns-then-all_apart-2 c =
    let a = c.args.core in
    let l = c.loop-r in
    let s : length a.records ≡ 16 = search rules in
    let v : c.if-all_apart.value ≡ (pairs elsewhere l.ends && pairs apart l.spans) = elim c.if-all_apart.branch [
      | then-all_apart w ↦ simp (w.value-is, ← w.as_slice-then-all_apart.ensures, ← w.all_apart-then-all_apart.ensures, ← c.as_slice.ensures, ← c.all_apart.ensures, w.if-all_apart.true)
      | else-all_apart w ↦ simp (w.value-is, ← c.as_slice.ensures, ← c.all_apart.ensures, w.if-all_apart.false)
    ] in
    c.wait_fits.ensures ∙ sym (survey_end a s l.ends l.spans l.r-index l.invariant c.loop-r-test.false c.if-core-gt131072.false c.if-core-gt127.false ∙ simp (← v, c.if-all_apart-2.true))

pub returns-else-all_apart-2 : goal.returns-else-all_apart-2
returns-else-all_apart-2 c =
    let a = c.args.core in
    let l = c.loop-r in
    let s : length a.records ≡ 16 = search rules in
    let v : c.if-all_apart.value ≡ (pairs elsewhere l.ends && pairs apart l.spans) = elim c.if-all_apart.branch [
      | then-all_apart w ↦ simp (w.value-is, ← w.as_slice-then-all_apart.ensures, ← w.all_apart-then-all_apart.ensures, ← c.as_slice.ensures, ← c.all_apart.ensures, w.if-all_apart.true)
      | else-all_apart w ↦ simp (w.value-is, ← c.as_slice.ensures, ← c.all_apart.ensures, w.if-all_apart.false)
    ] in
    sym (survey_end a s l.ends l.spans l.r-index l.invariant c.loop-r-test.false c.if-core-gt131072.false c.if-core-gt127.false ∙ simp (← v, c.if-all_apart-2.false))
