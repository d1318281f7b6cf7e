-- No hypothesis of demand 3 can be left out: with each of these traces, which breaks one of them, the core of document 01 itself would fail the claim.
-- Assumes nothing.
use mathlib.Core.Path.{◌≡◌, refl}
use mathlib.Core.Bool.{true, false, ◌&&◌}
use mathlib.Core.List.{List, [], ◌∷◌, ◌++◌}
use lib.Dec.{ltb, eqb}
use lib.ListN.{length, take, replicate}
use Rattle.wire.specs.Crc.{step, after, bits, sent, check}
use Rattle.wire.specs.Pid.{kind_of, pid_of, pid_byte}
use Rattle.wire.specs.Token.{token_of}
use Rattle.wire.specs.Data.{packet, stretch, check_sent, right_check, verdict_of, payload_of}
use Rattle.state.specs.declared.Condition.TheVariants.{Normal}
use Rattle.state.specs.declared.Kind.TheVariants as kind
use Rattle.state.specs.declared.Transfer.TheVariants as transfer
use Rattle.state.specs.declared.Descriptor.TheVariants.{Unallocated, Armed}
use Rattle.state.specs.declared.Speed.TheVariants.{Full}
use Rattle.state.specs.declared.Core.{Core}
use Rattle.state.specs.Update.{fresh, with_buffers, record_at, with_record}
use Rattle.state.specs.Ranges.{endpoint_fits, misplaced, mark_fits, live_fits, is_zero, record_fits}
use Rattle.state.specs.Served.{beside}
use Rattle.state.specs.Spans.{share_byte}
use Rattle.state.specs.Sound.{is_sound}
use Rattle.firmware.specs.Answers.{settled}
use Rattle.firmware.specs.Device.{set_address_of, bus_reset_of}
use Rattle.firmware.specs.Records.{in_use, served_elsewhere, configure_of, set_halt_of, clear_halt_of}
use Rattle.firmware.specs.Buffers.{shares_byte, arm_of}
use Rattle.bus.specs.declared.active.Direction.TheVariants.{Out}
use Rattle.bus.specs.Active.{chosen, active, used_up, filled}
use Rattle.bus.specs.Search.{served_by, found_in}
use Rattle.bus.specs.Data.{marked, acceptance, taken, taking, after_out}
use Rattle.bus.specs.Idle.{meeting, no_wait}
use Rattle.bus.specs.Arrival.{is_data_first, missed, data_step, timed_out, fulfilled, packet_step}
use Rattle.bus.specs.Calls.{packet_of}
use Rattle.demands.specs.Behaviour.{Lent, Configure, Arm, ClearHalt, SetHalt, SetAddress, BusReset, heard, the_core}
use Rattle.demands.specs.Host.{Setting, Happening, Firmware, TokenArrives, DataArrives, OtherArrives, stored_by, out_token, World, begin}
use Rattle.demands.specs.Host as host
use Rattle.demands.proofs.Computing.{same_packets}
use Rattle.demands.proofs.Port.{bulk, port, lent, host}

abbrev exchange : List Happening
exchange = TokenArrives lent ∷ DataArrives lent true ∷ []

-- the host holds more acknowledged than were stored
abbrev Lost : World → Type 0
Lost w = ltb (length w.stored) w.acknowledged ≡ true

-- what is stored is not the first of its list
abbrev OutOfOrder : World → Type 0
OutOfOrder w = same_packets w.stored (take (length w.stored) (host).payloads) ≡ false

-- the host was not moved on, and there is an active buffer
abbrev Stuck : World → Type 0
Stuck w = (eqb w.acknowledged 0 && active Out (record_at w.core 0)) ≡ true

-- a second OUT endpoint, number 2
abbrev second : Setting
second = record { index = 2; address = 1; endpoint = 2; payloads = [] }

abbrev two_ports : Core
two_ports =
    with_record port 2
    (with_buffers (fresh Normal (record { kind = kind.Out; transfer = transfer.Bulk; number = 2; maximum = 8 })) (Armed 40 8 0 false) Unallocated)

-- a payload of nine bytes, where eight are the maximum
abbrev too_long : Setting
too_long = record { index = 0; address = 1; endpoint = 1; payloads = replicate 9 0 ∷ [] }

abbrev short_reply : Lent
short_reply = record { memory = lent.memory; reply = replicate 1026 0 }

-- the record is configured and armed anew, and the host goes on
abbrev anew : List Happening
anew = Firmware lent (Configure 0 Normal (bulk kind.Out)) ∷ Firmware lent (Arm 0 0 16 8) ∷ exchange

pub record Needed : Type 0 where
  -- "an exchange cut short .. is closed by the timeout call before the next token": the payload goes to the other endpoint
  pub closed : Lost (host.after the_core host (begin two_ports) (OtherArrives lent (out_token second) ∷ DataArrives lent true ∷ []))
  -- "no .. halt .. cleared": the toggle goes back, and the next payload is taken for a repeat
  pub not_cleared : OutOfOrder (host.after the_core host (begin port) (exchange ++ (Firmware lent (ClearHalt 0) ∷ exchange)))
  -- "no .. halt set"
  pub not_set : Stuck (host.after the_core host (begin port) (Firmware lent (SetHalt 0) ∷ exchange))
  -- "no reset .. or reconfiguration": the same
  pub not_reset : OutOfOrder (host.after the_core host (begin port) (exchange ++ (Firmware lent (BusReset Full) ∷ anew)))
  -- "the address stays"
  pub address_stays : Stuck (host.after the_core host (begin port) (Firmware lent (SetAddress 2) ∷ exchange))
  -- "none above the maximum"
  pub none_above : Stuck (host.after the_core too_long (begin port) exchange)
  -- "each packet or timeout call lends what refusals 2 and 3 ask"
  pub lent_whole : Stuck (host.after the_core host (begin port) (TokenArrives short_reply ∷ DataArrives lent true ∷ []))

pub needed : Needed
unfolding out_token heard stored_by settled set_address_of bus_reset_of in_use served_elsewhere configure_of shares_byte arm_of set_halt_of clear_halt_of packet_of packet_step fulfilled timed_out missed data_step is_data_first no_wait meeting found_in served_by after_out taking taken marked acceptance filled used_up active chosen is_sound record_fits live_fits is_zero beside share_byte endpoint_fits misplaced mark_fits token_of pid_of kind_of pid_byte verdict_of payload_of stretch right_check check_sent packet step after bits sent check
needed =
    record {
      closed = refl;
      not_cleared = refl;
      not_set = refl;
      not_reset = refl;
      address_stays = refl;
      none_above = refl;
      lent_whole = refl;
    }
