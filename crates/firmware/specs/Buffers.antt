-- The calls on one buffer: arm and disarm.
use Rattle.std.specs.Prelude.{ℕ, Bool, false, not, List, [], ◌∷◌, ltb, eqb, set}
use Rattle.laws.specs.Lists.{all}
use Rattle.refusals.specs.declared.Refusal.{Refusal}
use Rattle.refusals.specs.declared.Refusal.TheVariants.{RecordInUse, RecordOff, NoSuchBuffer, NotUsedYet, NothingArmed, Misplaced, SharesByte}
use Rattle.refusals.specs.Refusals.{judged}
use Rattle.state.specs.declared.Descriptor.TheVariants.{Unallocated, Armed}
use Rattle.state.specs.declared.Core.{Core}
use Rattle.state.specs.Update.{buffer_of, with_buffer, record_at, with_record}
use Rattle.state.specs.Ranges.{live, out_side, misplaced, is_armed, is_unused, done_of}
use Rattle.state.specs.Spans.{span_from, apart, armed_spans}
use Rattle.state.specs.declared.Outcome.{Outcome}
use Rattle.firmware.specs.Answers.{settled}
use Rattle.firmware.specs.Records.{waits_on, index_tests}

-- buffer number 1; every number above it is refused
abbrev pub is_second : ℕ → Bool
is_second buffer = eqb buffer 1

-- 13: the span shares a byte with another armed span, used or not; the old span of the buffer itself is not counted
unfoldable pub shares_byte : Core → ℕ → Bool → ℕ → ℕ → Bool
shares_byte core i second base length =
    not (all (apart (span_from base length)) (armed_spans (set core.records i (with_buffer (record_at core i) second Unallocated))))

-- 8: record off; 9: buffer number above 1; 10: buffer armed and not used; 12 is `misplaced`
abbrev pub arm_tests : Core → ℕ → ℕ → ℕ → ℕ → List (Bool × Refusal)
arm_tests core i buffer base length =
    index_tests core i
    ((not (live (record_at core i).condition), RecordOff)
    ∷ (ltb 1 buffer, NoSuchBuffer)
    ∷ (is_unused (buffer_of (record_at core i) (is_second buffer)), NotUsedYet)
    ∷ (misplaced core.memory_size (out_side (record_at core i).endpoint.kind (is_second buffer)) (record_at core i).endpoint.maximum base length, Misplaced)
    ∷ (shares_byte core i (is_second buffer) base length, SharesByte)
    ∷ [])

-- arming sets done 0 and used no
abbrev pub armed : Core → ℕ → Bool → ℕ → ℕ → Core
armed core i second base length = with_record core i (with_buffer (record_at core i) second (Armed base length 0 false))

unfoldable pub arm_of : Core → ℕ → ℕ → ℕ → ℕ → Outcome ℕ
arm_of core i buffer base length =
    settled (judged (arm_tests core i buffer base length)) core (armed core i (is_second buffer) base length) 0

-- ---- disarm

-- 5: the core waits on it; 8: record off; 9: buffer number above 1; 11: nothing armed
abbrev pub disarm_tests : Core → ℕ → ℕ → List (Bool × Refusal)
disarm_tests core i buffer =
    index_tests core i
    ((waits_on core.wait i, RecordInUse)
    ∷ (not (live (record_at core i).condition), RecordOff)
    ∷ (ltb 1 buffer, NoSuchBuffer)
    ∷ (not (is_armed (buffer_of (record_at core i) (is_second buffer))), NothingArmed)
    ∷ [])

-- disarm returns done
unfoldable pub disarm_of : Core → ℕ → ℕ → Outcome ℕ
disarm_of core i buffer =
    settled (judged (disarm_tests core i buffer)) core
    (with_record core i (with_buffer (record_at core i) (is_second buffer) Unallocated))
    (done_of (buffer_of (record_at core i) (is_second buffer)))
