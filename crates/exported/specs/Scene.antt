-- The set-up that the packets are played on, as the firmware's calls leave it, and how often it is sound.
use Rattle.std.specs.Prelude.{ℕ, zero, suc, ◌+◌, ◌*◌, ◌%◌, cond, eqb}
use Rattle.state.specs.declared.Speed.{Speed}
use Rattle.state.specs.declared.Speed.TheVariants.{Full, High}
use Rattle.state.specs.declared.Condition.TheVariants.{Normal}
use Rattle.state.specs.declared.Kind.{Kind}
use Rattle.state.specs.declared.Kind.TheVariants as kind
use Rattle.state.specs.declared.Transfer.{Transfer}
use Rattle.state.specs.declared.Transfer.TheVariants as transfer
use Rattle.state.specs.declared.Core.{Core}
use Rattle.state.specs.Update.{with_address}
use Rattle.state.specs.Sound.{is_sound}
use Rattle.firmware.specs.Device.{start_of, set_address_of}
use Rattle.firmware.specs.Records.{configure_of}
use Rattle.firmware.specs.Buffers.{arm_of}

-- at high speed a bulk maximum is 512, and at full speed it never is
unfoldable pub speed_of : ℕ → Speed
speed_of maximum = cond (eqb maximum 512) High Full

-- thirty packets of a bulk buffer
abbrev pub room_of : ℕ → ℕ
room_of maximum = maximum % 1024 * 30

-- the state that a call leaves, taken or refused
abbrev pub live_of : Core → ℕ → Kind → Transfer → ℕ → ℕ → Core
live_of core i kind transfer number maximum =
    (configure_of core i Normal (record { kind = kind; transfer = transfer; number = number; maximum = maximum })).core

abbrev pub armed_of : Core → ℕ → ℕ → ℕ → ℕ → Core
armed_of core i buffer base length = (arm_of core i buffer base length).core

-- four records: control, bulk OUT and bulk IN of one number, interrupt IN
unfoldable pub records_of : Core → ℕ → Core
records_of core maximum =
    let control = live_of core 0 kind.Control transfer.Control 0 64 in
    let out = live_of control 1 kind.Out transfer.Bulk 1 maximum in
    let both = live_of out 2 kind.In transfer.Bulk 1 maximum in
    live_of both 3 kind.In transfer.Interrupt 2 64

-- buffer 0 of both bulk records
unfoldable pub bulk_of : Core → ℕ → Core
bulk_of core maximum = armed_of (armed_of core 1 0 0 (room_of maximum)) 2 0 16384 (room_of maximum)

-- both buffers of the other two, and those
unfoldable pub spans_of : Core → ℕ → Core
spans_of core maximum =
    let control = armed_of (armed_of core 0 0 32768 64) 0 1 32832 64 in
    let interrupt = armed_of (armed_of control 3 0 40960 64) 3 1 41024 64 in
    bulk_of interrupt maximum

-- 65,536 bytes, address 1
unfoldable pub set_up : ℕ → Core
set_up maximum =
    let addressed = (set_address_of (start_of 65536 (speed_of maximum)).core 1).core in
    spans_of (records_of addressed maximum) maximum

abbrev pub yes_of : Core → ℕ
yes_of core = cond (is_sound core) 1 0

-- how many of so many tests say yes, each at its own address
abbrev pub sound_of : Core → ℕ → ℕ
sound_of core zero = 0
sound_of core (suc n) = sound_of core n + yes_of (with_address core (n % 128))
