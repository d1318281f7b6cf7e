-- States that the theorems speak of: calls that are accepted one after the other from a start, so that sound states with live records, armed
-- spans and a wait exist. Assumes nothing.
use mathlib.Core.Path.{◌≡◌, refl}
use mathlib.Core.Bool.{true, false}
use Rattle.refusals.specs.Refusals.{refusal}
use Rattle.state.specs.declared.Speed.TheVariants.{Full}
use Rattle.state.specs.declared.Condition.TheVariants.{Normal}
use Rattle.state.specs.declared.Kind.TheVariants as kind
use Rattle.state.specs.declared.Transfer.TheVariants as transfer
use Rattle.state.specs.declared.Stage.TheVariants.{Setup}
use Rattle.state.specs.declared.Wait.TheVariants.{Data, Acknowledge}
use Rattle.state.specs.declared.Core.{Core}
use Rattle.state.specs.Update.{with_wait}
use Rattle.state.specs.Ranges.{endpoint_fits, misplaced, mark_fits, live_fits, is_zero, record_fits}
use Rattle.state.specs.Served.{beside}
use Rattle.state.specs.Spans.{share_byte}
use Rattle.state.specs.Sound.{Sound, is_sound}
use Rattle.state.proofs.Tested.{tested}
use Rattle.firmware.specs.Answers.{settled}
use Rattle.firmware.specs.Device.{start_of}
use Rattle.firmware.specs.Records.{in_use, served_elsewhere, configure_of}
use Rattle.firmware.specs.Buffers.{shares_byte, arm_of}

abbrev empty : Core
empty = (start_of 256 Full).core

abbrev control : Core
control = (configure_of empty 0 Normal (record { kind = kind.Control; transfer = transfer.Control; number = 0; maximum = 8 })).core

abbrev both : Core
both = (configure_of control 1 Normal (record { kind = kind.In; transfer = transfer.Bulk; number = 1; maximum = 8 })).core

abbrev taking : Core
taking = (arm_of both 0 0 0 16).core

abbrev sending : Core
sending = (arm_of taking 1 0 16 5).core

pub record Accepted : Type 0 where
  pub armed : refusal (arm_of taking 1 0 16 5).answer ≡ 0
  pub waits_for_data : is_sound (with_wait sending (Data 0 Setup)) ≡ true
  pub waits_for_ack : is_sound (with_wait sending (Acknowledge 1 false 5)) ≡ true
  pub wrong_length : is_sound (with_wait sending (Acknowledge 1 false 8)) ≡ false
  pub overlap : refusal (arm_of sending 1 1 20 5).answer ≡ 13

pub accepted : Accepted
unfolding settled start_of configure_of arm_of in_use served_elsewhere shares_byte is_sound record_fits live_fits is_zero endpoint_fits misplaced mark_fits beside share_byte
accepted = record { armed = refl; waits_for_data = refl; waits_for_ack = refl; wrong_length = refl; overlap = refl }

pub witness : Sound (with_wait sending (Acknowledge 1 false 5))
witness = tested (with_wait sending (Acknowledge 1 false 5)) accepted.waits_for_ack
