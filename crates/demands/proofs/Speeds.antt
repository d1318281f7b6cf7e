-- Demand 3 speaks of bulk and of interrupt endpoints at both speeds: each is fresh, and an exchange with PING in front of it is answered by its own rule and
-- moves the host on. Assumes nothing.
use Prim.Native.Nat.{ℕ}
use native.Mathlib.Omega.{arith}
use mathlib.Core.Path.{◌≡◌, refl, ap}
use mathlib.Core.Bool.{Bool, true, false, ◌&&◌}
use mathlib.Core.List.{List, [], ◌∷◌}
use lib.Dec.{leb, eqb}
use lib.ListN.{replicate}
use Rattle.wire.specs.Crc.{step, after, bits, sent, check}
use Rattle.wire.specs.Pid.{kind_of, pid_of, pid_byte}
use Rattle.wire.specs.Token.{token_of}
use Rattle.wire.specs.Data.{packet, stretch, check_sent, right_check, verdict_of, payload_of}
use Rattle.state.specs.declared.Speed.{Speed}
use Rattle.state.specs.declared.Speed.TheVariants.{Full, High}
use Rattle.state.specs.declared.Condition.TheVariants.{Normal}
use Rattle.state.specs.declared.Kind.TheVariants as kind
use Rattle.state.specs.declared.Transfer.{Transfer}
use Rattle.state.specs.declared.Transfer.TheVariants.{Bulk, Interrupt}
use Rattle.state.specs.declared.Descriptor.TheVariants.{Unallocated, Armed}
use Rattle.state.specs.declared.Core.{Core}
use Rattle.state.specs.Update.{fresh, started, with_address, with_buffers, with_record}
use Rattle.state.specs.Ranges.{endpoint_fits, misplaced, mark_fits, live_fits, is_zero, record_fits}
use Rattle.state.specs.Served.{beside}
use Rattle.state.specs.Spans.{share_byte}
use Rattle.state.specs.Sound.{is_sound}
use Rattle.state.proofs.Tested.{tested}
use Rattle.bus.specs.Active.{chosen, active, used_up, filled}
use Rattle.bus.specs.Tokens.{on_ping}
use Rattle.bus.specs.Search.{served_by, found_in}
use Rattle.bus.specs.Data.{marked, acceptance, taken, taking, after_out}
use Rattle.bus.specs.Idle.{meeting, no_wait}
use Rattle.bus.specs.Arrival.{is_data_first, missed, data_step, timed_out, fulfilled, packet_step}
use Rattle.bus.specs.Calls.{packet_of}
use Rattle.demands.specs.Behaviour.{Lent, heard, the_core}
use Rattle.demands.specs.Host.{Setting, Happening, TokenArrives, DataArrives, OtherArrives, stored_by, out_token, begin}
use Rattle.demands.specs.Host as host
use Rattle.demands.specs.Demand3.{Fresh}
use Rattle.demands.proofs.Computing.{same_packets}
use Rattle.demands.proofs.Trace.{answers}

-- one OUT endpoint of that type, with one buffer of one packet
abbrev port_at : Speed → Transfer → ℕ → Core
port_at speed transfer maximum =
    with_record (with_address (started 1024 speed) 1) 0
    (with_buffers (fresh Normal (record { kind = kind.Out; transfer = transfer; number = 1; maximum = maximum })) (Armed 0 maximum 0 false) Unallocated)

abbrev one : Setting
one = record { index = 0; address = 1; endpoint = 1; payloads = (255 ∷ []) ∷ [] }

-- it is fresh wherever it is sound
pub fresh_at : (speed : Speed) (transfer : Transfer) (maximum : ℕ) → is_sound (port_at speed transfer maximum) ≡ true → leb 1 maximum ≡ true → Fresh one (port_at speed transfer maximum)
fresh_at speed transfer maximum e m =
    record {
      plays = record { sound = tested (port_at speed transfer maximum) e; index_within = omega arith; same_address = refl; is_normal = refl; is_out = refl; same_number = refl; none_above = ap (λ (b : Bool). b && true) m };
      unwaited = refl;
      at_data0 = refl;
    }

abbrev lent : Lent
lent = record { memory = replicate 1024 0; reply = replicate 1027 0 }

abbrev pinged : List Happening
pinged = OtherArrives lent (180 ∷ 129 ∷ 88 ∷ []) ∷ TokenArrives lent ∷ DataArrives lent true ∷ []

-- PING, token and data are answered so, and the host has moved on
abbrev Answered : Speed → Transfer → ℕ → List (List ℕ) → Type 0
Answered speed transfer maximum heard_there =
    (is_sound (port_at speed transfer maximum)
    && same_packets (answers one (begin (port_at speed transfer maximum)) pinged) heard_there
    && eqb (host.after the_core one (begin (port_at speed transfer maximum)) pinged).acknowledged 1) ≡ true

pub record Speeds : Type 0 where
  -- PING is nothing at full speed
  pub bulk_full : Answered Full Bulk 64 ([] ∷ [] ∷ (210 ∷ []) ∷ [])
  pub interrupt_full : Answered Full Interrupt 64 ([] ∷ [] ∷ (210 ∷ []) ∷ [])
  -- at high speed bulk says ACK to PING, and NYET where the last buffer is used
  pub bulk_high : Answered High Bulk 512 ((210 ∷ []) ∷ [] ∷ (150 ∷ []) ∷ [])
  -- interrupt has neither PING nor NYET
  pub interrupt_high : Answered High Interrupt 1024 ([] ∷ [] ∷ (210 ∷ []) ∷ [])

pub speeds : Speeds
unfolding out_token heard stored_by packet_of packet_step fulfilled timed_out missed data_step is_data_first no_wait meeting found_in served_by on_ping after_out taking taken marked acceptance filled used_up active chosen is_sound record_fits live_fits is_zero beside share_byte endpoint_fits misplaced mark_fits token_of pid_of kind_of pid_byte verdict_of payload_of stretch right_check check_sent packet step after bits sent check
speeds = record { bulk_full = refl; interrupt_full = refl; bulk_high = refl; interrupt_high = refl }
