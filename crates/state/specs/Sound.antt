-- Document 01, "State": the sound state.
use Rattle.std.specs.Prelude.{ℕ, ◌-◌, ◌<◌, ◌≤◌, min, ◌≡◌, Bool, true, false, not, ◌&&◌, ◌||◌, leb, eqb, length}
use Rattle.std.specs.Bool.{beq}
use Rattle.laws.specs.Lists.{all, pairs}
use Rattle.state.specs.declared.Kind.{Kind}
use Rattle.state.specs.declared.Descriptor.{Descriptor}
use Rattle.state.specs.declared.Descriptor.TheVariants.{Unallocated, Armed}
use Rattle.state.specs.declared.Record.{Record}
use Rattle.state.specs.declared.Stage.{Stage}
use Rattle.state.specs.declared.Stage.TheVariants.{Setup, Out}
use Rattle.state.specs.declared.Wait.{Wait}
use Rattle.state.specs.declared.Wait.TheVariants.{Nothing, Data, Acknowledge}
use Rattle.state.specs.declared.Core.{Core}
use Rattle.state.specs.Update.{buffer_of, record_at}
use Rattle.state.specs.Ranges.{live, is_control, RecordSound, record_fits}
use Rattle.state.specs.Served.{serves_out, serves_in, beside}
use Rattle.state.specs.Spans.{apart, armed_spans}

-- ---- the wait

-- SETUP: control
abbrev pub stage_fits : Stage → Kind → Bool
stage_fits Setup kind = is_control kind
stage_fits Out kind = true

-- control: 1; otherwise the next mark's buffer
abbrev pub sender : Record → Bool
sender r = is_control r.endpoint.kind || r.next

-- an armed unused buffer, of which min(maximum, left) bytes are sent
abbrev pub sends : ℕ → ℕ → Descriptor → Bool
sends maximum sent Unallocated = false
sends maximum sent (Armed base length done used) = not used && eqb sent (min maximum (length - done))

-- a wait for data is on a live record of the OUT side
pub record DataWait (r : Record) (stage : Stage) : Type 0 where
  pub is_live : live r.condition ≡ true
  pub out_side_served : serves_out r.endpoint.kind ≡ true
  pub stage_fitting : stage_fits stage r.endpoint.kind ≡ true

-- an acknowledge wait is on a live record of the IN side and names the buffer and the length sent
pub record AcknowledgeWait (r : Record) (buffer : Bool) (sent : ℕ) : Type 0 where
  pub is_live : live r.condition ≡ true
  pub in_side_served : serves_in r.endpoint.kind ≡ true
  pub sent_from : buffer ≡ sender r
  pub sent_so_many : sends r.endpoint.maximum sent (buffer_of r buffer) ≡ true

abbrev pub WaitSound : Core → Wait → Type 0
WaitSound core Nothing = Unit {0}
WaitSound core (Data i stage) = (i < 16) × DataWait (record_at core i) stage
WaitSound core (Acknowledge i buffer sent) = (i < 16) × AcknowledgeWait (record_at core i) buffer sent

-- the record that is waited on; where there is no wait, any
abbrev pub wait_record : Wait → ℕ
wait_record Nothing = 0
wait_record (Data i stage) = i
wait_record (Acknowledge i buffer sent) = i

abbrev pub data_fits : Record → Stage → Bool
data_fits r stage = live r.condition && serves_out r.endpoint.kind && stage_fits stage r.endpoint.kind

abbrev pub acknowledge_fits : Record → Bool → ℕ → Bool
acknowledge_fits r buffer sent =
    live r.condition
    && serves_in r.endpoint.kind
    && beq buffer (sender r)
    && sends r.endpoint.maximum sent (buffer_of r buffer)

abbrev pub wait_fits : Record → Wait → Bool
wait_fits r Nothing = true
wait_fits r (Data i stage) = data_fits r stage
wait_fits r (Acknowledge i buffer sent) = acknowledge_fits r buffer sent

-- ---- the whole

-- M and address within their ranges; every record sound by itself; no two live records serve one number in one direction; no two armed spans
-- share a byte; the wait
pub record Sound (core : Core) : Type 0 where
  pub sixteen : length core.records ≡ 16
  pub memory_within : core.memory_size ≤ 131072
  pub address_within : core.address ≤ 127
  pub each_record : (i : ℕ) → i < 16 → RecordSound core.memory_size core.speed (record_at core i)
  pub served_once : pairs beside core.records ≡ true
  pub spans_apart : pairs apart (armed_spans core.records) ≡ true
  pub wait_sound : WaitSound core core.wait

-- the test that runs
unfoldable pub is_sound : Core → Bool
is_sound core =
    eqb (length core.records) 16
    && leb core.memory_size 131072
    && leb core.address 127
    && all (record_fits core.memory_size core.speed) core.records
    && pairs beside core.records
    && pairs apart (armed_spans core.records)
    && leb (wait_record core.wait) 15
    && wait_fits (record_at core (wait_record core.wait)) core.wait
