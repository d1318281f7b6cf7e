-- Every update of a record and of the core. No other file lists their fields; each update names the one that it gives anew, and
-- every other is what it was.
use Rattle.std.specs.Prelude.{ℕ, Bool, false, ◌||◌, cond, List, eqb, get_or, set, replicate}
use Rattle.state.specs.declared.Speed.{Speed}
use Rattle.state.specs.declared.Condition.{Condition}
use Rattle.state.specs.declared.Condition.TheVariants.{Off}
use Rattle.state.specs.declared.Kind.TheVariants as kind
use Rattle.state.specs.declared.Transfer.TheVariants as transfer
use Rattle.state.specs.declared.Endpoint.{Endpoint}
use Rattle.state.specs.declared.Toggles.{Toggles}
use Rattle.state.specs.declared.RecordEvents.{RecordEvents}
use Rattle.state.specs.declared.SystemEvents.{SystemEvents}
use Rattle.state.specs.declared.RecordEvent.{RecordEvent}
use Rattle.state.specs.declared.SystemEvent.{SystemEvent}
use Rattle.state.specs.declared.Descriptor.{Descriptor}
use Rattle.state.specs.declared.Descriptor.TheVariants.{Unallocated}
use Rattle.state.specs.declared.Record.{Record}
use Rattle.state.specs.declared.Wait.{Wait}
use Rattle.state.specs.declared.Wait.TheVariants.{Nothing}
use Rattle.state.specs.declared.Core.{Core}
use Rattle.state.specs.Events.{bit, system_bit}

-- ---- the values at the start

abbrev pub no_events : RecordEvents
no_events =
    record {
      wait_ended = false;
      not_good = false;
      out_of_place = false;
      first_used = false;
      second_used = false;
      not_taken = false;
      short_packet = false;
    }

abbrev pub no_system_events : SystemEvents
no_system_events = record { bad_token = false; bad_pid = false; unserved = false; bus_reset = false }

abbrev pub data0 : Toggles
data0 = record { out_side = false; in_side = false }

abbrev pub no_endpoint : Endpoint
no_endpoint = record { kind = kind.Control; transfer = transfer.Control; number = 0; maximum = 0 }

-- toggles DATA0, next mark 0, events 0, both buffers unallocated
abbrev pub fresh : Condition → Endpoint → Record
fresh condition endpoint =
    record {
      condition = condition;
      endpoint = endpoint;
      next = false;
      events = no_events;
      toggles = data0;
      first = Unallocated;
      second = Unallocated;
    }

-- off: all zero with nothing armed
abbrev pub off_record : Record
off_record = fresh Off no_endpoint

-- ---- a record

abbrev pub with_condition : Record → Condition → Record
with_condition r condition =
    record {
      condition = condition;
      endpoint = r.endpoint;
      next = r.next;
      events = r.events;
      toggles = r.toggles;
      first = r.first;
      second = r.second;
    }

abbrev pub with_next : Record → Bool → Record
with_next r next =
    record {
      condition = r.condition;
      endpoint = r.endpoint;
      next = next;
      events = r.events;
      toggles = r.toggles;
      first = r.first;
      second = r.second;
    }

abbrev pub with_events : Record → RecordEvents → Record
with_events r events =
    record {
      condition = r.condition;
      endpoint = r.endpoint;
      next = r.next;
      events = events;
      toggles = r.toggles;
      first = r.first;
      second = r.second;
    }

abbrev pub with_toggles : Record → Toggles → Record
with_toggles r toggles =
    record {
      condition = r.condition;
      endpoint = r.endpoint;
      next = r.next;
      events = r.events;
      toggles = toggles;
      first = r.first;
      second = r.second;
    }

abbrev pub with_buffers : Record → Descriptor → Descriptor → Record
with_buffers r first second =
    record {
      condition = r.condition;
      endpoint = r.endpoint;
      next = r.next;
      events = r.events;
      toggles = r.toggles;
      first = first;
      second = second;
    }

-- buffer 0 or 1
abbrev pub buffer_of : Record → Bool → Descriptor
buffer_of r second = cond second r.second r.first

abbrev pub with_buffer : Record → Bool → Descriptor → Record
with_buffer r second d = with_buffers r (cond second r.first d) (cond second d r.second)

-- an event is set: every other is what it was
abbrev pub noted : RecordEvents → RecordEvent → RecordEvents
noted e event =
    record {
      wait_ended = eqb (bit event) 0 || e.wait_ended;
      not_good = eqb (bit event) 1 || e.not_good;
      out_of_place = eqb (bit event) 2 || e.out_of_place;
      first_used = eqb (bit event) 3 || e.first_used;
      second_used = eqb (bit event) 4 || e.second_used;
      not_taken = eqb (bit event) 5 || e.not_taken;
      short_packet = eqb (bit event) 6 || e.short_packet;
    }

-- ---- the core

-- start: address 0, all records off, no wait, no events
abbrev pub started : ℕ → Speed → Core
started M speed =
    record {
      memory_size = M;
      address = 0;
      speed = speed;
      events = no_system_events;
      records = replicate 16 off_record;
      wait = Nothing;
    }

abbrev pub with_address : Core → ℕ → Core
with_address core address =
    record {
      memory_size = core.memory_size;
      address = address;
      speed = core.speed;
      events = core.events;
      records = core.records;
      wait = core.wait;
    }

abbrev pub with_speed : Core → Speed → Core
with_speed core speed =
    record {
      memory_size = core.memory_size;
      address = core.address;
      speed = speed;
      events = core.events;
      records = core.records;
      wait = core.wait;
    }

abbrev pub with_system_events : Core → SystemEvents → Core
with_system_events core events =
    record {
      memory_size = core.memory_size;
      address = core.address;
      speed = core.speed;
      events = events;
      records = core.records;
      wait = core.wait;
    }

-- a system event is set: every other is what it was
abbrev pub signalled : SystemEvents → SystemEvent → SystemEvents
signalled e event =
    record {
      bad_token = eqb (system_bit event) 20 || e.bad_token;
      bad_pid = eqb (system_bit event) 21 || e.bad_pid;
      unserved = eqb (system_bit event) 22 || e.unserved;
      bus_reset = eqb (system_bit event) 28 || e.bus_reset;
    }

abbrev pub with_records : Core → List Record → Core
with_records core records =
    record {
      memory_size = core.memory_size;
      address = core.address;
      speed = core.speed;
      events = core.events;
      records = records;
      wait = core.wait;
    }

abbrev pub with_wait : Core → Wait → Core
with_wait core wait =
    record {
      memory_size = core.memory_size;
      address = core.address;
      speed = core.speed;
      events = core.events;
      records = core.records;
      wait = wait;
    }

-- the record at an index, and the core with that record given anew; an index above 15 has the off record, and nothing to replace
abbrev pub record_at : Core → ℕ → Record
record_at core i = get_or core.records i off_record

abbrev pub with_record : Core → ℕ → Record → Core
with_record core i r = with_records core (set core.records i r)
