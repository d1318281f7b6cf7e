-- The calls on one record: configure, set and clear halt, the read of its events.
use Rattle.std.specs.Prelude.{ℕ, Bool, true, false, not, ◌||◌, List, [], ◌∷◌, ltb, eqb, set}
use Rattle.laws.specs.Lists.{all}
use Rattle.refusals.specs.declared.Refusal.{Refusal}
use Rattle.refusals.specs.declared.Refusal.TheVariants.{NotSound, NoSuchRecord, RecordInUse, OutOfRange, ServedElsewhere, RecordOff}
use Rattle.refusals.specs.Refusals.{judged}
use Rattle.state.specs.declared.Condition.{Condition}
use Rattle.state.specs.declared.Condition.TheVariants.{Off, Normal, Halted}
use Rattle.state.specs.declared.Endpoint.{Endpoint}
use Rattle.state.specs.declared.Record.{Record}
use Rattle.state.specs.declared.Wait.{Wait}
use Rattle.state.specs.declared.Wait.TheVariants.{Nothing, Data, Acknowledge}
use Rattle.state.specs.declared.Core.{Core}
use Rattle.state.specs.Events.{record_bits}
use Rattle.state.specs.Update.{no_events, data0, fresh, off_record, with_condition, with_events, with_toggles, record_at, with_record}
use Rattle.state.specs.Ranges.{live, endpoint_fits, is_armed}
use Rattle.state.specs.Served.{beside}
use Rattle.state.specs.Sound.{is_sound}
use Rattle.state.specs.declared.Outcome.{Outcome}
use Rattle.firmware.specs.Answers.{settled}

-- the core waits on the record
abbrev pub waits_on : Wait → ℕ → Bool
waits_on Nothing i = false
waits_on (Data j stage) i = eqb j i
waits_on (Acknowledge j buffer sent) i = eqb j i

-- 1: the state is not sound; 4: record index above 15
abbrev pub index_tests : Core → ℕ → List (Bool × Refusal) → List (Bool × Refusal)
index_tests core i tests = (not (is_sound core), NotSound) ∷ (ltb 15 i, NoSuchRecord) ∷ tests

-- ---- configure

-- 5: a buffer armed, or the core waits on the record
unfoldable pub in_use : Core → ℕ → Bool
in_use core i = is_armed (record_at core i).first || is_armed (record_at core i).second || waits_on core.wait i

-- 7: number and direction served by another live record
unfoldable pub served_elsewhere : Core → ℕ → Endpoint → Bool
served_elsewhere core i e = not (all (beside (fresh Normal e)) (set core.records i off_record))

-- 6: condition halted, or to normal with values outside the ranges; setting off judges no other argument
abbrev pub condition_tests : Core → ℕ → Condition → Endpoint → List (Bool × Refusal)
condition_tests core i Off e = []
condition_tests core i Normal e = (not (endpoint_fits core.speed e), OutOfRange) ∷ (served_elsewhere core i e, ServedElsewhere) ∷ []
condition_tests core i Halted e = (true, OutOfRange) ∷ []

abbrev pub configure_tests : Core → ℕ → Condition → Endpoint → List (Bool × Refusal)
configure_tests core i condition e = index_tests core i ((in_use core i, RecordInUse) ∷ condition_tests core i condition e)

-- setting off zeroes the record; configure sets toggles to DATA0, next mark 0, events 0, both buffers unallocated
abbrev pub configured : Condition → Endpoint → Record
configured Off e = off_record
configured Normal e = fresh Normal e
configured Halted e = fresh Normal e

unfoldable pub configure_of : Core → ℕ → Condition → Endpoint → Outcome ℕ
configure_of core i condition e =
    settled (judged (configure_tests core i condition e)) core (with_record core i (configured condition e)) 0

-- ---- set and clear halt

-- 5: the core waits on it; 8: record off
abbrev pub halt_tests : Core → ℕ → List (Bool × Refusal)
halt_tests core i = index_tests core i ((waits_on core.wait i, RecordInUse) ∷ (not (live (record_at core i).condition), RecordOff) ∷ [])

unfoldable pub set_halt_of : Core → ℕ → Outcome ℕ
set_halt_of core i = settled (judged (halt_tests core i)) core (with_record core i (with_condition (record_at core i) Halted)) 0

-- clear halt sets normal and all the record's toggles to DATA0
unfoldable pub clear_halt_of : Core → ℕ → Outcome ℕ
clear_halt_of core i =
    settled (judged (halt_tests core i)) core
    (with_record core i (with_toggles (with_condition (record_at core i) Normal) data0))
    0

-- ---- the read of a record's events

unfoldable pub record_events_of : Core → ℕ → Outcome ℕ
record_events_of core i =
    settled (judged (index_tests core i [])) core
    (with_record core i (with_events (record_at core i) no_events))
    (record_bits (record_at core i).events)
