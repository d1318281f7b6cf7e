-- Document 01, "State": the event bits, by their numbers.
use Rattle.std.specs.Prelude.{ℕ, ◌+◌, ◌/◌, ◌%◌, ◌^◌, Bool, cond, eqb, Result, Ok, Err}
use Rattle.state.specs.declared.RecordEvents.{RecordEvents}
use Rattle.state.specs.declared.SystemEvents.{SystemEvents}
use Rattle.state.specs.declared.events.Unnamed.{Unnamed}
use Rattle.state.specs.declared.RecordEvent.{RecordEvent}
use Rattle.state.specs.declared.RecordEvent.TheVariants.{WaitEnded, NotGood, OutOfPlace, FirstUsed, SecondUsed, NotTaken, ShortPacket}
use Rattle.state.specs.declared.SystemEvent.{SystemEvent}
use Rattle.state.specs.declared.SystemEvent.TheVariants.{BadToken, BadPid, Unserved, BusReset}

-- this paper's number of each event
abbrev pub bit : RecordEvent → ℕ
bit WaitEnded = 0
bit NotGood = 1
bit OutOfPlace = 2
bit FirstUsed = 3
bit SecondUsed = 4
bit NotTaken = 5
bit ShortPacket = 6

abbrev pub system_bit : SystemEvent → ℕ
system_bit BadToken = 20
system_bit BadPid = 21
system_bit Unserved = 22
system_bit BusReset = 28

-- what an event adds to the number that has its bit
abbrev pub at : ℕ → Bool → ℕ
at bit set = cond set (2 ^ bit) 0

-- record events 0 to 6
unfoldable pub record_bits : RecordEvents → ℕ
record_bits e =
    at 0 e.wait_ended
    + at 1 e.not_good
    + at 2 e.out_of_place
    + at 3 e.first_used
    + at 4 e.second_used
    + at 5 e.not_taken
    + at 6 e.short_packet

-- system events 20, 21, 22 and 28
unfoldable pub system_bits : SystemEvents → ℕ
system_bits e = at 20 e.bad_token + at 21 e.bad_pid + at 22 e.unserved + at 28 e.bus_reset

-- ---- the events that a number stands for: each is the bit of its own number

-- whether a number has the bit of this weight
abbrev pub weighs : ℕ → ℕ → Bool
weighs n weight = eqb (n / weight % 2) 1

abbrev pub record_events_of : ℕ → RecordEvents
record_events_of n =
    record {
      wait_ended = weighs n (2 ^ bit WaitEnded);
      not_good = weighs n (2 ^ bit NotGood);
      out_of_place = weighs n (2 ^ bit OutOfPlace);
      first_used = weighs n (2 ^ bit FirstUsed);
      second_used = weighs n (2 ^ bit SecondUsed);
      not_taken = weighs n (2 ^ bit NotTaken);
      short_packet = weighs n (2 ^ bit ShortPacket);
    }

abbrev pub system_events_of : ℕ → SystemEvents
system_events_of n =
    record {
      bad_token = weighs n (2 ^ system_bit BadToken);
      bad_pid = weighs n (2 ^ system_bit BadPid);
      unserved = weighs n (2 ^ system_bit Unserved);
      bus_reset = weighs n (2 ^ system_bit BusReset);
    }

abbrev pub unnamed : Unnamed
unnamed = record {}

-- a sum of the named events' bits, and nothing else, gives itself back
abbrev pub record_events_in : ℕ → Result RecordEvents Unnamed
record_events_in n = cond (eqb (record_bits (record_events_of n)) n) (Ok (record_events_of n)) (Err unnamed)

abbrev pub system_events_in : ℕ → Result SystemEvents Unnamed
system_events_in n = cond (eqb (system_bits (system_events_of n)) n) (Ok (system_events_of n)) (Err unnamed)
