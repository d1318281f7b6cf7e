-- A port that is reached from a start, and a host that sends it three payloads: record 0 plays bulk OUT number 1 with both buffers armed, record 1
-- bulk IN number 1. Assumes nothing.
use native.Mathlib.Omega.{arith}
use mathlib.Core.Path.{◌≡◌, refl}
use mathlib.Core.Bool.{true, false}
use mathlib.Core.List.{List, [], ◌∷◌}
use lib.ListN.{replicate}
use Rattle.state.specs.declared.Speed.TheVariants.{Full}
use Rattle.state.specs.declared.Condition.TheVariants.{Normal}
use Rattle.state.specs.declared.Kind.{Kind}
use Rattle.state.specs.declared.Kind.TheVariants as kind
use Rattle.state.specs.declared.Transfer.TheVariants as transfer
use Rattle.state.specs.declared.Endpoint.{Endpoint}
use Rattle.state.specs.declared.Descriptor.TheVariants.{Unallocated, Armed}
use Rattle.state.specs.declared.Core.{Core}
use Rattle.state.specs.Update.{fresh, started, with_address, with_buffers, with_record}
use Rattle.state.specs.Ranges.{endpoint_fits, misplaced, mark_fits, live_fits, is_zero, record_fits}
use Rattle.state.specs.Served.{beside}
use Rattle.state.specs.Spans.{share_byte}
use Rattle.state.specs.Sound.{Sound, is_sound}
use Rattle.state.proofs.Tested.{tested}
use Rattle.firmware.specs.Answers.{settled}
use Rattle.firmware.specs.Device.{start_of, set_address_of}
use Rattle.firmware.specs.Records.{in_use, served_elsewhere, configure_of}
use Rattle.firmware.specs.Buffers.{shares_byte, arm_of}
use Rattle.demands.specs.Behaviour.{Lent, Call, Configure, Arm, SetAddress, the_core, Given, Beginning, run_from}
use Rattle.demands.specs.Host.{Setting}
use Rattle.demands.specs.Demand3.{Plays, Fresh}

abbrev pub bulk : Kind → Endpoint
bulk k = record { kind = k; transfer = transfer.Bulk; number = 1; maximum = 8 }

abbrev pub port : Core
port =
    with_record
    (with_record (with_address (started 256 Full) 1) 0 (with_buffers (fresh Normal (bulk kind.Out)) (Armed 16 8 0 false) (Armed 24 8 0 false)))
    1
    (with_buffers (fresh Normal (bulk kind.In)) (Armed 32 1 0 false) Unallocated)

abbrev pub lent : Lent
lent = record { memory = replicate 256 0; reply = replicate 1027 0 }

abbrev pub host : Setting
host = record { index = 0; address = 1; endpoint = 1; payloads = (255 ∷ []) ∷ (1 ∷ 2 ∷ 3 ∷ 4 ∷ 5 ∷ 6 ∷ 7 ∷ 8 ∷ []) ∷ (9 ∷ []) ∷ [] }

-- ---- it is reached from a start

abbrev calling : Call → Given
calling c = record { lent = lent; call = c }

abbrev pub beginning : Beginning
beginning = record { before = started 0 Full; lent = lent; memory_size = 256; speed = Full }

abbrev pub set_up : List Given
set_up =
    calling (SetAddress 1)
    ∷ calling (Configure 0 Normal (bulk kind.Out))
    ∷ calling (Configure 1 Normal (bulk kind.In))
    ∷ calling (Arm 0 0 16 8)
    ∷ calling (Arm 0 1 24 8)
    ∷ calling (Arm 1 0 32 1)
    ∷ []

pub reached : run_from the_core beginning set_up ≡ port
unfolding settled start_of set_address_of configure_of arm_of in_use served_elsewhere shares_byte is_sound record_fits live_fits is_zero endpoint_fits misplaced mark_fits beside share_byte
reached = refl

-- ---- and freshly configured

is_sound_lem : is_sound port ≡ true
unfolding is_sound record_fits live_fits is_zero endpoint_fits misplaced mark_fits beside share_byte
is_sound_lem = refl

pub port_sound : Sound port
port_sound = tested port is_sound_lem

plays : Plays host port
plays =
    record {
      sound = port_sound;
      index_within = omega arith;
      same_address = refl;
      is_normal = refl;
      is_out = refl;
      same_number = refl;
      none_above = refl;
    }

pub port_fresh : Fresh host port
port_fresh = record { plays = plays; unwaited = refl; at_data0 = refl }
