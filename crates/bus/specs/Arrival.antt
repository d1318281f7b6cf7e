-- Document 01, "A packet arrives": a wait ends at any packet, and at the timeout call.
use Rattle.std.specs.Prelude.{ℕ, ◌+◌, ◌≤◌, ◌≡◌, Bool, false, ◌&&◌, cond, List, eqb, length, get_or, Option, Some, None}
use Rattle.wire.specs.declared.pid.Kind.TheVariants as pid
use Rattle.wire.specs.Pid.{number, pid_byte}
use Rattle.wire.specs.Data.{is_data_pid, verdict_of, payload_of}
use Rattle.state.specs.declared.RecordEvent.TheVariants.{WaitEnded}
use Rattle.state.specs.declared.Stage.{Stage}
use Rattle.state.specs.declared.Wait.{Wait}
use Rattle.state.specs.declared.Wait.TheVariants.{Nothing, Data, Acknowledge}
use Rattle.state.specs.declared.Core.{Core}
use Rattle.state.specs.Update.{record_at}
use Rattle.state.specs.Sound.{WaitSound, wait_record, Sound}
use Rattle.bus.specs.declared.idle.Met.{Met}
use Rattle.bus.specs.declared.idle.Met.TheVariants as met
use Rattle.bus.specs.declared.turn.Says.TheVariants.{Silence}
use Rattle.bus.specs.declared.turn.Step.{Step}
use Rattle.bus.specs.Turn.{noting, placed, unchanged}
use Rattle.bus.specs.Active.{acknowledged}
use Rattle.bus.specs.Data.{data_turn}
use Rattle.bus.specs.Idle.{first_pid, meeting, no_wait}

-- ---- a checked PID of the kind waited for

-- any data PID
unfoldable pub is_data_first : List ℕ → Bool
is_data_first packet = is_data_pid (first_pid packet)

-- ACK of one byte
unfoldable pub is_ack : List ℕ → Bool
is_ack packet = eqb (length packet) 1 && eqb (get_or packet 0 0) (pid_byte (number pid.Ack))

-- ---- the wait

-- the wait ends, and event 0 is set
unfoldable pub missed : Core → ℕ → Core
missed core i = (placed core i (noting (record_at core i) WaitEnded)).core

-- data awaited: what the reader says of the packet decides
unfoldable pub data_step : Core → ℕ → Stage → List ℕ → Step
data_step core i stage packet =
    placed core i (data_turn core.speed stage (record_at core i) (verdict_of packet) (length (payload_of packet)))

-- the timeout call sets record event 0 where it ends a wait, and otherwise changes nothing
abbrev pub run_out : Wait → Core → Core
run_out Nothing core = core
run_out (Data i stage) core = missed core i
run_out (Acknowledge i buffer sent) core = missed core i

unfoldable pub timed_out : Core → Core
timed_out core = run_out core.wait core

-- ---- a packet

-- a checked PID of the kind waited for
abbrev pub awaited : Wait → List ℕ → Bool
awaited Nothing packet = false
awaited (Data i stage) packet = is_data_first packet
awaited (Acknowledge i buffer sent) packet = is_ack packet

-- data awaited, ACK awaited; without a wait no packet is awaited
abbrev pub awaited_step : Wait → Core → List ℕ → Step
awaited_step Nothing core packet = unchanged core Silence
awaited_step (Data i stage) core packet = data_step core i stage packet
awaited_step (Acknowledge i buffer sent) core packet = placed core i (acknowledged (record_at core i) buffer sent)

unfoldable pub fulfilled : Core → List ℕ → Step
fulfilled core packet = awaited_step core.wait core packet

-- unless the packet is of the kind waited for, event 0 is set and the packet is then read with no wait
unfoldable pub packet_step : Core → List ℕ → Step
packet_step core packet = cond (awaited core.wait packet) (fulfilled core packet) (no_wait (timed_out core) packet)

-- ---- the record that a packet is served by

abbrev pub met_at : Met → Option ℕ
met_at met.Nothing = None
met_at (met.Trouble event) = None
met_at (met.Frame frame) = None
met_at (met.Token asks i) = Some i

unfoldable pub served_at : Core → List ℕ → Option ℕ
served_at core packet =
    cond (awaited core.wait packet) (Some (wait_record core.wait)) (met_at (meeting (timed_out core) packet))

-- the core waits on the record
abbrev pub WaitsOn : Wait → ℕ → Type 0
WaitsOn Nothing j = ⊥
WaitsOn (Data i stage) j = i ≡ j
WaitsOn (Acknowledge i buffer sent) j = i ≡ j

-- ---- what the inner functions are given

-- the stretch of a store is of the memory
abbrev pub StoreWithin : Option ℕ → ℕ → ℕ → Type 0
StoreWithin None n M = Unit {0}
StoreWithin (Some place) n M = place + n ≤ M

-- a sound core, and all its memory
abbrev pub Ready : Core → ℕ → Type 0
Ready core M = Sound core × (M ≡ core.memory_size)

-- the core awaits data on the record
abbrev pub Awaits : Core → ℕ → Stage → Type 0
Awaits core i stage = WaitSound core (Data i stage)
