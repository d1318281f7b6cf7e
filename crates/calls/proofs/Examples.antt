-- Lines of the call script and what they ask for, computed: lines of rows that differ in kind, and beside them the nearest that ask for nothing.
-- Assumes nothing.
use Prim.Native.String.{String}
use mathlib.Core.Path.{◌≡◌, refl}
use mathlib.Core.Bool.{true, false}
use Rattle.std.proofs.Common.{Some, None}
use Rattle.script.specs.Words.{words_of}
use Rattle.script.specs.Numbers.{number_of, number_from, is_decimal}
use Rattle.state.specs.Events.{record_bits, system_bits}
use Rattle.state.specs.declared.Condition.TheVariants.{Off, Normal, Halted}
use Rattle.state.specs.declared.Descriptor.TheVariants.{Armed}
use Rattle.state.specs.declared.Kind.TheVariants as kind_is
use Rattle.state.specs.declared.Speed.TheVariants.{Full}
use Rattle.state.specs.declared.Stage.TheVariants as stage_is
use Rattle.state.specs.declared.Transfer.TheVariants as transfer_is
use Rattle.state.specs.declared.Wait.TheVariants as wait_is
use Rattle.calls.specs.declared.line.Line.{Line}
use Rattle.calls.specs.declared.line.Line.TheVariants.{Firmware, Packet, Encode, Force}
use Rattle.calls.specs.declared.line.Line.TheVariants as line-is
use Rattle.calls.specs.declared.line.Call.TheVariants as call
use Rattle.calls.specs.declared.line.Forced.TheVariants as forced
use Rattle.calls.specs.declared.line.Field.TheVariants as field
use Rattle.calls.specs.Forms.{text, speed_of, condition_of, kind_of, transfer_of, stage_of, at_most, bit_of, record_events_of, system_events_of}
use Rattle.calls.specs.Script.{endpoint, verb_of, what_of, waiting_of, field_of, line_of}

-- a line whose last word is no bytes, and one whose last word is
abbrev Asks : String → Line → Type 0
Asks line what = line_of (text line) false ≡ Some what

abbrev AsksWith : String → Line → Type 0
AsksWith line what = line_of (text line) true ≡ Some what

-- one of no form
abbrev Bad : String → Type 0
Bad line = line_of (text line) false ≡ None

pub examples :
    Asks "start full 256" (Firmware (call.Start Full 256))
    × Asks "configure 0 off" (Firmware (call.Configure 0 Off (endpoint kind_is.Control transfer_is.Control 0 0)))
    × Bad "configure 0 off control"
    × Asks "configure 1 normal in bulk 1 8" (Firmware (call.Configure 1 Normal (endpoint kind_is.In transfer_is.Bulk 1 8)))
    × Asks "arm 0 1 0016 8" (Firmware (call.Arm 0 1 16 8))
    × Asks "events" (Firmware call.SystemEvents)
    × Asks "events 3" (Firmware (call.RecordEvents 3))
    × Asks "halt 4294967295" (Firmware (call.Halt 4294967295))
    × Bad "halt 4294967296"
    × Bad "halt  0"
    × AsksWith "packet C3" Packet
    × Bad "packet C"
    × AsksWith "encode 3 -" (Encode 3)
    × Asks "lend default" (line-is.Lend None)
    × Asks "lend 131072 1040" (line-is.Lend (Some (record { memory = 131072; reply = 1040 })))
    × Bad "lend 131072 1041"
    × Asks "force events 3145728" (Force (forced.Events (record { bad_token = true; bad_pid = true; unserved = false; bus_reset = false })))
    × Bad "force events 8388608"
    × Asks "force wait data 3 out" (Force (forced.Wait (wait_is.Data 3 stage_is.Out)))
    × Asks "force wait ack 3 0 8" (Force (forced.Wait (wait_is.Acknowledge 3 false 8)))
    × Asks "force record 15 condition halted" (Force (forced.Record 15 (field.Condition Halted)))
    × Asks "force record 15 events 127" (Force (forced.Record 15 (field.Events (record { wait_ended = true; not_good = true; out_of_place = true; first_used = true; second_used = true; not_taken = true; short_packet = true }))))
    × Bad "force record 15 events 128"
    × Bad "force record 16 events 0"
    × Asks "force buffer 0 1 16 8 1 1" (Force (forced.Buffer 0 true (Armed 16 8 1 true)))
    × Asks "force frame 1 65535 255" (Force (forced.Frame (record { seen = true; number = 65535; repeats = 255 })))
    × Bad "force frame 2 0 0"
    × Bad "starts full 256"
unfolding line_of words_of number_of number_from is_decimal record_bits system_bits speed_of condition_of kind_of transfer_of stage_of at_most bit_of record_events_of system_events_of verb_of what_of waiting_of field_of
examples = (refl, refl, refl, refl, refl, refl, refl, refl, refl, refl, refl, refl, refl, refl, refl, refl, refl, refl, refl, refl, refl, refl, refl, refl, refl, refl, refl, refl)
