-- Under one contract no function of the state has two results. One law, and a line for each public function. Assumes nothing.
use Prim.Native.Nat.{ℕ, ◌-◌, min}
use mathlib.Core.Bool.{Bool}
use mathlib.Core.List.{List}
use Rattle.laws.specs.Lists.{all}
use Rattle.laws.proofs.Once.{Once, once}
use Rattle.state.specs.declared.Speed.{Speed}
use Rattle.state.specs.declared.Condition.{Condition}
use Rattle.state.specs.declared.Kind.{Kind}
use Rattle.state.specs.declared.Endpoint.{Endpoint}
use Rattle.state.specs.declared.Toggles.{Toggles}
use Rattle.state.specs.declared.RecordEvents.{RecordEvents}
use Rattle.state.specs.declared.SystemEvents.{SystemEvents}
use Rattle.state.specs.declared.RecordEvent.{RecordEvent}
use Rattle.state.specs.declared.SystemEvent.{SystemEvent}
use Rattle.state.specs.declared.Descriptor.{Descriptor}
use Rattle.state.specs.declared.Record.{Record}
use Rattle.state.specs.declared.Wait.{Wait}
use Rattle.state.specs.declared.Wait.TheVariants.{Nothing}
use Rattle.state.specs.declared.Core.{Core}
use Rattle.state.specs.Events.{bit, system_bit, record_bits, system_bits, record_events_of, system_events_of, record_events_in, system_events_in}
use Rattle.state.specs.Ranges.{live, is_control, endpoint_fits, out_side, misplaced, is_armed, is_unused, done_of, is_zero}
use Rattle.state.specs.Served.{serves_out, serves_in, beside}
use Rattle.state.specs.Spans.{span_from, apart, armed_spans}
use Rattle.state.specs.Sound.{is_sound}
use Rattle.state.specs.Update.{no_events, no_system_events, data0, fresh, off_record, with_condition, with_next, with_events, with_toggles, buffer_of, with_buffer, noted, signalled, started, with_address, with_system_events, with_wait, record_at, with_record}

-- ---- events

pub bit_once : (event : RecordEvent) → Once (bit event)
bit_once event = once _

pub system_bit_once : (event : SystemEvent) → Once (system_bit event)
system_bit_once event = once _

pub record_bits_once : (e : RecordEvents) → Once (record_bits e)
record_bits_once e = once _

pub system_bits_once : (e : SystemEvents) → Once (system_bits e)
system_bits_once e = once _

pub record_events_once : (n : ℕ) → Once (record_events_of n)
record_events_once n = once _

pub system_events_once : (n : ℕ) → Once (system_events_of n)
system_events_once n = once _

pub record_events_in_once : (n : ℕ) → Once (record_events_in n)
record_events_in_once n = once _

pub system_events_in_once : (n : ℕ) → Once (system_events_in n)
system_events_in_once n = once _

-- ---- range

pub is_live_once : (condition : Condition) → Once (live condition)
is_live_once condition = once _

pub is_control_once : (kind : Kind) → Once (is_control kind)
is_control_once kind = once _

pub endpoint_fits_once : (speed : Speed) (e : Endpoint) → Once (endpoint_fits speed e)
endpoint_fits_once speed e = once _

pub on_out_side_once : (kind : Kind) (second : Bool) → Once (out_side kind second)
on_out_side_once kind second = once _

pub is_misplaced_once : (memory : ℕ) (out : Bool) (maximum base length : ℕ) → Once (misplaced memory out maximum base length)
is_misplaced_once memory out maximum base length = once _

module _ (d : Descriptor) where
  pub is_armed_once : Once (is_armed d)
  is_armed_once = once _

  pub is_unused_once : Once (is_unused d)
  is_unused_once = once _

  pub done_of_once : Once (done_of d)
  done_of_once = once _

pub is_zero_once : (r : Record) → Once (is_zero r)
is_zero_once r = once _

-- ---- served

pub serves_out_once : (kind : Kind) → Once (serves_out kind)
serves_out_once kind = once _

pub serves_in_once : (kind : Kind) → Once (serves_in kind)
serves_in_once kind = once _

pub are_beside_once : (r s : Record) → Once (beside r s)
are_beside_once r s = once _

-- ---- sound

-- the library's `min` and `saturating_sub` take the place of two functions that had these
pub smaller_once : (a b : ℕ) → Once (min a b)
smaller_once a b = once _

pub left_of_once : (length done : ℕ) → Once (length - done)
left_of_once length done = once _

pub is_sound_once : (core : Core) → Once (is_sound core)
is_sound_once core = once _

-- ---- spans

pub is_clear_once : (from count : ℕ) (records : List Record) → Once (all (apart (span_from from count)) (armed_spans records))
is_clear_once from count records = once _

-- ---- update

pub no_events_once : Once no_events
no_events_once = once _

pub no_system_events_once : Once no_system_events
no_system_events_once = once _

pub data0_once : Once data0
data0_once = once _

pub fresh_once : (condition : Condition) (endpoint : Endpoint) → Once (fresh condition endpoint)
fresh_once condition endpoint = once _

pub off_record_once : Once off_record
off_record_once = once _

pub noted_once : (e : RecordEvents) (event : RecordEvent) → Once (noted e event)
noted_once e event = once _

pub signalled_once : (e : SystemEvents) (event : SystemEvent) → Once (signalled e event)
signalled_once e event = once _

pub started_once : (memory : ℕ) (speed : Speed) → Once (started memory speed)
started_once memory speed = once _

module _ (r : Record) where
  pub with_condition_once : (condition : Condition) → Once (with_condition r condition)
  with_condition_once condition = once _

  pub with_next_once : (next : Bool) → Once (with_next r next)
  with_next_once next = once _

  pub with_events_once : (events : RecordEvents) → Once (with_events r events)
  with_events_once events = once _

  pub with_toggles_once : (toggles : Toggles) → Once (with_toggles r toggles)
  with_toggles_once toggles = once _

  pub buffer_of_once : (second : Bool) → Once (buffer_of r second)
  buffer_of_once second = once _

  pub with_buffer_once : (second : Bool) (d : Descriptor) → Once (with_buffer r second d)
  with_buffer_once second d = once _

module _ (core : Core) where
  pub record_at_once : (i : ℕ) → Once (record_at core i)
  record_at_once i = once _

  pub with_record_once : (i : ℕ) (r : Record) → Once (with_record core i r)
  with_record_once i r = once _

  pub with_system_events_once : (events : SystemEvents) → Once (with_system_events core events)
  with_system_events_once events = once _

  pub with_address_once : (address : ℕ) → Once (with_address core address)
  with_address_once address = once _

  pub with_wait_once : (wait : Wait) → Once (with_wait core wait)
  with_wait_once wait = once _

  pub with_record_and_wait_once : (i : ℕ) (r : Record) (wait : Wait) → Once (with_wait (with_record core i r) wait)
  with_record_and_wait_once i r wait = once _

  pub with_wait_ended_once : (i : ℕ) (event : RecordEvent) → Once (with_wait (with_record core i (with_events (record_at core i) (noted (record_at core i).events event))) Nothing)
  with_wait_ended_once i event = once _
