-- Document 01, "A packet arrives": what a packet brings about, in the record that it is for and in the core.
use Rattle.std.specs.Prelude.{ℕ, ◌+◌, Bool, cond, List, [], ◌∷◌, ◌++◌, length, take, drop, Option, Some, None}
use Rattle.wire.specs.declared.pid.Kind.TheVariants as pid
use Rattle.wire.specs.Pid.{number, pid_byte}
use Rattle.wire.specs.Data.{packet}
use Rattle.state.specs.declared.RecordEvent.{RecordEvent}
use Rattle.state.specs.declared.SystemEvent.{SystemEvent}
use Rattle.state.specs.declared.Record.{Record}
use Rattle.state.specs.declared.Wait.{Wait}
use Rattle.state.specs.declared.Wait.TheVariants.{Nothing}
use Rattle.state.specs.declared.Core.{Core}
use Rattle.state.specs.Update.{with_events, noted, with_system_events, signalled, with_wait, with_record}
use Rattle.bus.specs.declared.turn.Says.{Says}
use Rattle.bus.specs.declared.turn.Says.TheVariants.{Silence, Ack, Nak, Stall, Nyet, Data, Frame}
use Rattle.bus.specs.declared.turn.Turn.{Turn}
use Rattle.bus.specs.declared.turn.Step.{Step}

-- ---- the memory and the reply

-- the payload's bytes, unchanged, are written to the place; no byte outside that stretch
abbrev pub written : ℕ → List ℕ → List ℕ → List ℕ
written place payload memory = take place memory ++ (payload ++ drop (place + length payload) memory)

abbrev pub stored : Option ℕ → List ℕ → List ℕ → List ℕ
stored None payload memory = memory
stored (Some place) payload memory = written place payload memory

-- under the toggle
abbrev pub data_pid : Bool → ℕ
data_pid toggle = cond toggle (number pid.Data1) (number pid.Data0)

-- the bytes of the reply: a handshake is its PID byte, data are a packet of bytes of the memory
abbrev pub said : Says → List ℕ → List ℕ
said Silence memory = []
said Ack memory = pid_byte (number pid.Ack) ∷ []
said Nak memory = pid_byte (number pid.Nak) ∷ []
said Stall memory = pid_byte (number pid.Stall) ∷ []
said Nyet memory = pid_byte (number pid.Nyet) ∷ []
said (Data toggle from count) memory = packet (data_pid toggle) (take count (drop from memory))
said (Frame frame) memory = []

-- a reply is written from the first byte of the reply buffer; later bytes stay
abbrev pub laid : List ℕ → List ℕ → List ℕ
laid bytes reply = bytes ++ drop (length bytes) reply

-- ---- the record's turn

-- the record as it is, no wait
abbrev pub saying : Record → Says → Turn
saying r says = record { after = r; wait = Nothing; store = None; says = says }

-- a record event, silent
abbrev pub noting : Record → RecordEvent → Turn
noting r event = saying (with_events r (noted r.events event)) Silence

-- a wait, silent
abbrev pub waiting : Record → Wait → Turn
waiting r wait = record { after = r; wait = wait; store = None; says = Silence }

-- ---- the core's step

-- the record's turn, and no other record
abbrev pub placed : Core → ℕ → Turn → Step
placed core i turn =
    record {
      core = with_wait (with_record core i turn.after) turn.wait;
      store = turn.store;
      says = turn.says;
    }

abbrev pub unchanged : Core → Says → Step
unchanged core says = record { core = core; store = None; says = says }

-- a system event, silent
abbrev pub signalling : Core → SystemEvent → Step
signalling core event = unchanged (with_system_events core (signalled core.events event)) Silence
