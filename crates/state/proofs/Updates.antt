-- What each update leaves alone: given its old value back, the whole is what it was. Assumes nothing.
use Prim.Native.Nat.{ℕ, ◌<◌}
use mathlib.Core.Path.{◌≡◌, refl, ap, ◌∙◌}
use mathlib.Core.Logic.{◌≢◌}
use mathlib.Core.Bool.{Bool, true, false, not}
use mathlib.Core.List.{List}
use lib.ListN.{length}
use lib.Seq.{get_or-set_same, get_or-set_other, set-set, set-get_or}
use Rattle.state.specs.declared.Speed.{Speed}
use Rattle.state.specs.declared.Condition.{Condition}
use Rattle.state.specs.declared.Toggles.{Toggles}
use Rattle.state.specs.declared.RecordEvents.{RecordEvents}
use Rattle.state.specs.declared.SystemEvents.{SystemEvents}
use Rattle.state.specs.declared.Descriptor.{Descriptor}
use Rattle.state.specs.declared.Record.{Record}
use Rattle.state.specs.declared.Wait.{Wait}
use Rattle.state.specs.declared.Core.{Core}
use Rattle.state.specs.Update.{off_record, with_condition, with_next, with_events, with_toggles, with_buffers, buffer_of, with_buffer, with_address, with_speed, with_system_events, with_records, with_wait, record_at, with_record}

-- ---- a record

module _ (r : Record) where
  pub condition_back : (condition : Condition) → with_condition (with_condition r condition) r.condition ≡ r
  condition_back condition = refl

  pub next_back : (next : Bool) → with_next (with_next r next) r.next ≡ r
  next_back next = refl

  pub events_back : (events : RecordEvents) → with_events (with_events r events) r.events ≡ r
  events_back events = refl

  pub toggles_back : (toggles : Toggles) → with_toggles (with_toggles r toggles) r.toggles ≡ r
  toggles_back toggles = refl

  pub buffers_back : (first second : Descriptor) → with_buffers (with_buffers r first second) r.first r.second ≡ r
  buffers_back first second = refl

  pub buffer_back : (second : Bool) (d : Descriptor) → with_buffer (with_buffer r second d) second (buffer_of r second) ≡ r
  buffer_back false d = refl
  buffer_back true d = refl

  pub buffer_given : (second : Bool) (d : Descriptor) → buffer_of (with_buffer r second d) second ≡ d
  buffer_given false d = refl
  buffer_given true d = refl

  pub other_buffer : (second : Bool) (d : Descriptor) → buffer_of (with_buffer r second d) (not second) ≡ buffer_of r (not second)
  other_buffer false d = refl
  other_buffer true d = refl

-- ---- the core

module _ (core : Core) where
  pub address_back : (address : ℕ) → with_address (with_address core address) core.address ≡ core
  address_back address = refl

  pub speed_back : (speed : Speed) → with_speed (with_speed core speed) core.speed ≡ core
  speed_back speed = refl

  pub system_events_back : (events : SystemEvents) → with_system_events (with_system_events core events) core.events ≡ core
  system_events_back events = refl

  pub records_back : (records : List Record) → with_records (with_records core records) core.records ≡ core
  records_back records = refl

  pub wait_back : (wait : Wait) → with_wait (with_wait core wait) core.wait ≡ core
  wait_back wait = refl

  pub record_back : (i : ℕ) (r : Record) → with_record (with_record core i r) i (record_at core i) ≡ core
  record_back i r =
      ap (with_records core) (set-set core.records i r (record_at core i) ∙ set-get_or core.records i off_record)

  pub record_given : (i : ℕ) (r : Record) → i < length core.records → record_at (with_record core i r) i ≡ r
  record_given i r h = get_or-set_same core.records i r off_record h

  pub other_record : (i j : ℕ) (r : Record) → j ≢ i → record_at (with_record core i r) j ≡ record_at core j
  other_record i j r n = get_or-set_other core.records i j r off_record n
