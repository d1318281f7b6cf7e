-- A behaviour: what a core does at each call. Document 01's core is one, and so is a fraud.
use Rattle.std.specs.Prelude.{ℕ, ◌≡◌, Bool, true, false, List, [], ◌∷◌, Result, Ok, Err, take}
use Rattle.refusals.specs.declared.Refusal.{Refusal}
use Rattle.refusals.specs.Refusals.{number}
use Rattle.state.specs.declared.Speed.{Speed}
use Rattle.state.specs.declared.Condition.{Condition}
use Rattle.state.specs.declared.Endpoint.{Endpoint}
use Rattle.state.specs.declared.Core.{Core}
use Rattle.state.specs.declared.Outcome as state
use Rattle.firmware.specs.Device.{start_of, set_address_of, bus_reset_of, system_events_of}
use Rattle.firmware.specs.Records.{configure_of, set_halt_of, clear_halt_of, record_events_of}
use Rattle.firmware.specs.Buffers.{arm_of, disarm_of}
use Rattle.bus.specs.declared.Answer as bus
use Rattle.bus.specs.declared.Answer.TheVariants.{Silent, Reply, Sof}
use Rattle.bus.specs.Calls.{packet_of, timeout_of}

-- what is lent for the time of a call: the buffer memory and the reply buffer. It comes with each call, so between two calls the
-- firmware may have written to the memory
pub record Lent : Type 0 where
  pub memory : List ℕ
  pub reply : List ℕ

-- the calls and their arguments
pub data Call : Type 0 where
  -- M and the speed; it begins anew, whatever the state was
  Start : ℕ → Speed → Call
  -- index, condition, and kind, type, number, maximum
  Configure : ℕ → Condition → Endpoint → Call
  -- index, buffer, base, length
  Arm : ℕ → ℕ → ℕ → ℕ → Call
  Disarm : ℕ → ℕ → Call
  SetHalt : ℕ → Call
  ClearHalt : ℕ → Call
  SetAddress : ℕ → Call
  BusReset : Speed → Call
  RecordEvents : ℕ → Call
  SystemEvents : Call
  Packet : List ℕ → Call
  Timeout : Call

-- who makes it: a start, which is given no state; the firmware; or the bus
pub data Side : Type 0 where
  Anew ByFirmware OnBus : Side

abbrev pub side_of : Call → Side
side_of (Start M speed) = Anew
side_of (Configure i condition e) = ByFirmware
side_of (Arm i buffer base length) = ByFirmware
side_of (Disarm i buffer) = ByFirmware
side_of (SetHalt i) = ByFirmware
side_of (ClearHalt i) = ByFirmware
side_of (SetAddress address) = ByFirmware
side_of (BusReset speed) = ByFirmware
side_of (RecordEvents i) = ByFirmware
side_of SystemEvents = ByFirmware
side_of (Packet p) = OnBus
side_of Timeout = OnBus

abbrev pub is_anew : Side → Bool
is_anew Anew = true
is_anew ByFirmware = false
is_anew OnBus = false

abbrev pub is_by_firmware : Side → Bool
is_by_firmware Anew = false
is_by_firmware ByFirmware = true
is_by_firmware OnBus = false

-- what a call answers: the firmware's calls, and the two of the bus. A behaviour may refuse with any number
pub data Answer : Type 0 where
  ToFirmware : Result ℕ ℕ → Answer
  ToBus : Result bus.Answer ℕ → Answer

abbrev pub number_in : {A : Type 0} → Result A ℕ → ℕ
number_in (Ok answer) = 0
number_in (Err n) = n

-- the number of the refusal, 0 being done
abbrev pub refusal : Answer → ℕ
refusal (ToFirmware a) = number_in a
refusal (ToBus a) = number_in a

-- what a call leaves and answers
pub record Outcome : Type 0 where
  pub core : Core
  pub lent : Lent
  pub answer : Answer

abbrev pub Behaviour : Type 0
Behaviour = Core → Lent → Call → Outcome

-- what is heard on the bus: as many bytes of the reply buffer as the answer says
abbrev pub sent_of : Result bus.Answer ℕ → List ℕ → List ℕ
sent_of (Ok Silent) reply = []
sent_of (Ok (Reply bytes)) reply = take bytes reply
sent_of (Ok (Sof frame)) reply = []
sent_of (Err n) reply = []

abbrev pub heard_of : Answer → List ℕ → List ℕ
heard_of (ToFirmware a) reply = []
heard_of (ToBus a) reply = sent_of a reply

unfoldable pub heard : Outcome → List ℕ
heard o = heard_of o.answer o.lent.reply

-- ---- document 01's core, made of the definitions that the contracts cite

-- the answer with the refusal's number in place of the refusal
abbrev pub by_number : {A : Type 0} → Result A Refusal → Result A ℕ
by_number (Ok answer) = Ok answer
by_number (Err why) = Err (number why)

-- a call of the firmware is lent no bytes
abbrev pub by_firmware : Lent → state.Outcome ℕ → Outcome
by_firmware lent o = record { core = o.core; lent = lent; answer = ToFirmware (by_number o.answer) }

abbrev pub on_bus : state.Outcome bus.Answer → List ℕ → List ℕ → Outcome
on_bus o memory reply = record { core = o.core; lent = record { memory = memory; reply = reply }; answer = ToBus (by_number o.answer) }

abbrev pub packet_call : Core → Lent → List ℕ → Outcome
packet_call core lent p =
    let left = packet_of core lent.memory lent.reply p in on_bus left.outcome left.memory left.reply

abbrev pub the_core : Behaviour
the_core core lent (Start M speed) = by_firmware lent (start_of M speed)
the_core core lent (Configure i condition e) = by_firmware lent (configure_of core i condition e)
the_core core lent (Arm i buffer base length) = by_firmware lent (arm_of core i buffer base length)
the_core core lent (Disarm i buffer) = by_firmware lent (disarm_of core i buffer)
the_core core lent (SetHalt i) = by_firmware lent (set_halt_of core i)
the_core core lent (ClearHalt i) = by_firmware lent (clear_halt_of core i)
the_core core lent (SetAddress address) = by_firmware lent (set_address_of core address)
the_core core lent (BusReset speed) = by_firmware lent (bus_reset_of core speed)
the_core core lent (RecordEvents i) = by_firmware lent (record_events_of core i)
the_core core lent SystemEvents = by_firmware lent (system_events_of core)
the_core core lent (Packet p) = packet_call core lent p
the_core core lent Timeout = on_bus (timeout_of core lent.memory lent.reply) lent.memory lent.reply

-- ---- the code's calls, each as one step of it

-- what a call of the firmware returned is the step, whatever is lent meanwhile
abbrev pub Steps : Core → Call → state.Outcome ℕ → Type 0
Steps core call o = (lent : Lent) → by_firmware lent o ≡ the_core core lent call

-- what a call of the bus returned, with the bytes that it left, is the step
abbrev pub StepsOnBus : Core → List ℕ → List ℕ → Call → state.Outcome bus.Answer → List ℕ → List ℕ → Type 0
StepsOnBus core memory reply call o memory' reply' =
    on_bus o memory' reply' ≡ the_core core (record { memory = memory; reply = reply }) call

-- ---- runs

-- a call, and what is lent to it
pub record Given : Type 0 where
  pub lent : Lent
  pub call : Call

-- calls each of which is given the state that the one before it left
abbrev pub run : Behaviour → Core → List Given → Core
run B core [] = core
run B core (g ∷ gs) = run B (B core g.lent g.call).core gs

-- a run from a start: what the state was before it does not matter
pub record Beginning : Type 0 where
  pub before : Core
  pub lent : Lent
  pub memory_size : ℕ
  pub speed : Speed

abbrev pub start_call : Beginning → Given
start_call s = record { lent = s.lent; call = Start s.memory_size s.speed }

abbrev pub from : Beginning → List Given → List Given
from s gs = start_call s ∷ gs

abbrev pub run_from : Behaviour → Beginning → List Given → Core
run_from B s gs = run B s.before (from s gs)
