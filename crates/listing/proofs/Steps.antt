-- The calls of the set-up, one after the other: antt computes that none is refused, and what they leave. Assumes nothing.
use mathlib.Core.Path.{◌≡◌, refl}
use Rattle.state.specs.declared.Speed.TheVariants.{Full}
use Rattle.state.specs.declared.Condition.TheVariants.{Normal}
use Rattle.state.specs.declared.Kind.TheVariants.{In, Out}
use Rattle.state.specs.Ranges.{endpoint_fits, misplaced, mark_fits, live_fits, is_zero, record_fits}
use Rattle.state.specs.Served.{beside}
use Rattle.state.specs.Sound.{is_sound}
use Rattle.state.specs.Spans.{share_byte}
use Rattle.firmware.specs.Answers.{settled}
use Rattle.firmware.specs.Device.{start_of, set_address_of}
use Rattle.firmware.specs.Records.{in_use, served_elsewhere, configure_of}
use Rattle.firmware.specs.Buffers.{shares_byte, arm_of}
use Rattle.listing.specs.SetUp.{bulk, set_up}

pub steps :
    (arm_of (configure_of (arm_of (configure_of (set_address_of (start_of 256 Full).core 1).core 0 Normal (bulk Out)).core 0 0 16 8).core 1 Normal (bulk In)).core
    1 0 32 1).core
    ≡ set_up
unfolding set_up settled start_of set_address_of configure_of arm_of in_use served_elsewhere shares_byte is_sound record_fits live_fits is_zero beside share_byte endpoint_fits misplaced mark_fits
steps = refl
