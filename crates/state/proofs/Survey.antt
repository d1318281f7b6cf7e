-- The walk of the sound test over the records: what it has tested and gathered, and what is still to come. Assumes nothing.
use Prim.Native.Nat.{ℕ, ◌+◌, ◌<◌, ◌≤◌}
use native.Mathlib.Omega.{arith}
use mathlib.Core.Path.{◌≡◌, sym, ap, ◌∙◌}
use mathlib.Core.Bool.{true, false, Bool, ◌&&◌, ◌||◌, cond}
use mathlib.Core.List.{List, [], ◌∷◌, ◌++◌, append-nil, append_assoc}
use lib.ListN.{length, drop, length-append}
use lib.Dec.{ltb, leb}
use borrow.Author.Tests.{ltb-false, le-leb, eq-eqb}
use Rattle.laws.proofs.Bools.{neither}
use Rattle.laws.specs.Lists.{all, pairs}
use Rattle.laws.proofs.Lists.{all_turn, all_stop, all_end, gather_turn, gather_end}
use Rattle.state.specs.declared.Speed.{Speed}
use Rattle.state.specs.declared.Descriptor.{Descriptor}
use Rattle.state.specs.declared.Descriptor.TheVariants.{Unallocated, Armed}
use Rattle.state.specs.declared.Record.{Record}
use Rattle.state.specs.declared.Core.{Core}
use Rattle.state.specs.declared.served.End.{End}
use Rattle.state.specs.declared.spans.Span.{Span}
use Rattle.state.specs.Update.{off_record, record_at}
use Rattle.state.specs.Ranges.{live, out_side, no_multiple, misplaced, DescriptorSound, live_fits, is_zero, record_fits}
use Rattle.state.specs.Served.{end_of, ends_of, ends, elsewhere, beside}
use Rattle.state.specs.Spans.{Within, spans_in, spans_of, apart, armed_spans}
use Rattle.state.specs.Sound.{wait_record, wait_fits, is_sound}
use Rattle.state.proofs.Ends.{ends_beside}
use Rattle.state.proofs.Tested.{live_sound}
use Rattle.state.proofs.Zero.{zero_off}

-- after i records: the tests that are left, the ends and the spans that were gathered, and those that are left
pub record Surveyed (core : Core) (served : List End) (spans : List Span) (i : ℕ) : Type 0 where
  pub ends_most : length served ≤ i
  pub spans_most : length spans ≤ i + i
  pub tests : all (record_fits core.memory_size core.speed) core.records ≡ all (record_fits core.memory_size core.speed) (drop i core.records)
  pub gathered_ends : ends core.records ≡ served ++ ends (drop i core.records)
  pub gathered_spans : armed_spans core.records ≡ spans ++ armed_spans (drop i core.records)

pub at_most_one : (d : Descriptor) → length (spans_in d) ≤ 1
at_most_one Unallocated = omega arith
at_most_one (Armed base length done used) = omega arith

-- an off record that is zero has no spans
idle : (r : Record) → live r.condition ≡ false → is_zero r ≡ true → spans_of r ≡ []
idle r off zero = rw (zero_off r off zero)

-- a span of a live record that fits ends within 32 bits
span_within : (M : ℕ) (out : Bool) (maximum : ℕ) (d : Descriptor) → DescriptorSound M out maximum d → Within d
unfolding misplaced
span_within M out maximum Unallocated w = tt
span_within M out maximum (Armed base length done used) w =
    let p = neither (ltb 131070 base || ltb 16383 length || ltb M (base + length)) (out && no_multiple length maximum) w.placed in
    let q = neither (ltb 131070 base || ltb 16383 length) (ltb M (base + length)) p.0 in
    let r = neither (ltb 131070 base) (ltb 16383 length) q.0 in
    omega (arith, ltb-false 131070 base r.0, ltb-false 16383 length r.1)

pub both_within : (M : ℕ) (speed : Speed) (r : Record) → live_fits M speed r ≡ true → Within r.first × Within r.second
both_within M speed r fits =
    let w = live_sound M speed r fits in
    (span_within M (out_side r.endpoint.kind false) r.endpoint.maximum r.first w.first_sound, span_within M (out_side r.endpoint.kind true) r.endpoint.maximum r.second w.second_sound)

module _ (core : Core) (sixteen : length core.records ≡ 16) where
  module _ (served : List End) (spans : List Span) (i : ℕ) (w : Surveyed core served spans i) where
    module _ (over : 16 ≤ i) where
      end : length core.records ≤ i
      end = omega (arith, sixteen)

      survey_tests : all (record_fits core.memory_size core.speed) core.records ≡ true
      survey_tests = all_end core.records i _ (record_fits core.memory_size core.speed) w.tests end

      all_ends : ends core.records ≡ served
      all_ends = w.gathered_ends ∙ rw (gather_end ends_of off_record core.records i end) (append-nil served)

      survey_served : pairs beside core.records ≡ pairs elsewhere served
      survey_served = sym (ends_beside core.records) ∙ ap (pairs elsewhere) all_ends

      survey_spans : armed_spans core.records ≡ spans
      survey_spans = w.gathered_spans ∙ rw (gather_end spans_of off_record core.records i end) (append-nil spans)

      -- what is left of the test
      pub survey_end : core.memory_size ≤ 131072 → core.address ≤ 127 → is_sound core ≡ (pairs elsewhere served && pairs apart spans && leb (wait_record core.wait) 15 && wait_fits (record_at core (wait_record core.wait)) core.wait)
      unfolding is_sound
      survey_end m a = simp (eq-eqb _ _ sixteen, le-leb _ _ m, le-leb _ _ a, survey_tests, survey_served, survey_spans)

    module _ (more : i < 16) where
      at : i < length core.records
      at = omega arith

      survey_stop : core.memory_size ≤ 131072 → core.address ≤ 127 → record_fits core.memory_size core.speed (record_at core i) ≡ false → is_sound core ≡ false
      unfolding is_sound
      survey_stop m a e =
          simp (eq-eqb _ _ sixteen, le-leb _ _ m, le-leb _ _ a, all_stop core.records i _ (record_fits core.memory_size core.speed) w.tests off_record at e)

      module _ (fits : record_fits core.memory_size core.speed (record_at core i) ≡ true) where
        tested : all (record_fits core.memory_size core.speed) core.records ≡ all (record_fits core.memory_size core.speed) (drop (i + 1) core.records)
        tested = all_turn core.records i _ (record_fits core.memory_size core.speed) w.tests off_record at fits

        next_ends : ends core.records ≡ served ++ (ends_of (record_at core i) ++ ends (drop (i + 1) core.records))
        next_ends = w.gathered_ends ∙ rw (gather_turn ends_of off_record core.records i at)

        next_spans : armed_spans core.records ≡ spans ++ (spans_of (record_at core i) ++ armed_spans (drop (i + 1) core.records))
        next_spans = w.gathered_spans ∙ rw (gather_turn spans_of off_record core.records i at)

        off_gathered : live (record_at core i).condition ≡ false → is_zero (record_at core i) ≡ true → Surveyed core served spans (i + 1)
        off_gathered off zero =
            record {
              ends_most = omega (arith, w.ends_most);
              spans_most = omega (arith, w.spans_most);
              tests = tested;
              gathered_ends = next_ends ∙ rw off;
              gathered_spans = next_spans ∙ rw (idle (record_at core i) off zero);
            }

        live_gathered : live (record_at core i).condition ≡ true → Surveyed core (served ++ end_of (record_at core i).endpoint ∷ []) (spans ++ spans_in (record_at core i).first ++ spans_in (record_at core i).second) (i + 1)
        live_gathered on =
            record {
              ends_most = simp length-append (omega (arith, w.ends_most));
              spans_most = simp length-append (omega (arith, w.spans_most, at_most_one (record_at core i).first, at_most_one (record_at core i).second));
              tests = tested;
              gathered_ends = next_ends ∙ rw on (sym (append_assoc served (end_of (record_at core i).endpoint ∷ []) (ends (drop (i + 1) core.records))));
              gathered_spans = next_spans ∙ simp append_assoc;
            }

      -- by the two tests of a record
      fits_by : (b : Bool) → live (record_at core i).condition ≡ b → record_fits core.memory_size core.speed (record_at core i) ≡ cond b (live_fits core.memory_size core.speed (record_at core i)) (is_zero (record_at core i))
      unfolding record_fits
      fits_by b e = rw e

      pub survey_live : live (record_at core i).condition ≡ true → live_fits core.memory_size core.speed (record_at core i) ≡ true → Surveyed core (served ++ end_of (record_at core i).endpoint ∷ []) (spans ++ spans_in (record_at core i).first ++ spans_in (record_at core i).second) (i + 1)
      survey_live on fits = live_gathered (fits_by true on ∙ fits) on

      pub survey_off : live (record_at core i).condition ≡ false → is_zero (record_at core i) ≡ true → Surveyed core served spans (i + 1)
      survey_off off zero = off_gathered (fits_by false off ∙ zero) off zero

      pub stop_live : core.memory_size ≤ 131072 → core.address ≤ 127 → live (record_at core i).condition ≡ true → live_fits core.memory_size core.speed (record_at core i) ≡ false → is_sound core ≡ false
      stop_live m a on e = survey_stop m a (fits_by true on ∙ e)

      pub stop_off : core.memory_size ≤ 131072 → core.address ≤ 127 → live (record_at core i).condition ≡ false → is_zero (record_at core i) ≡ false → is_sound core ≡ false
      stop_off m a off e = survey_stop m a (fits_by false off ∙ e)
