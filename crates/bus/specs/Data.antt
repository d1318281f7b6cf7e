-- Document 01, "A packet arrives": data awaited.
use Rattle.std.specs.Prelude.{ℕ, Bool, true, false, not, ◌&&◌, cond, [], ◌∷◌, ltb, eqb, Option, Some, None}
use Rattle.std.specs.Bool.{beq}
use Rattle.laws.specs.Lists.{first_of}
use Rattle.wire.specs.declared.pid.Kind.{Kind}
use Rattle.wire.specs.declared.pid.Kind.TheVariants as pid
use Rattle.state.specs.declared.Speed.{Speed}
use Rattle.state.specs.declared.Speed.TheVariants.{Full, High}
use Rattle.state.specs.declared.Condition.TheVariants.{Normal}
use Rattle.state.specs.declared.RecordEvent.TheVariants.{NotGood, OutOfPlace, NotTaken, ShortPacket}
use Rattle.state.specs.declared.Record.{Record}
use Rattle.state.specs.declared.Stage.{Stage}
use Rattle.state.specs.declared.Stage.TheVariants.{Setup, Out}
use Rattle.state.specs.declared.Wait.TheVariants.{Nothing}
use Rattle.state.specs.Update.{with_condition, with_events, with_toggles, noted, buffer_of}
use Rattle.state.specs.Ranges.{is_unused}
use Rattle.bus.specs.declared.active.Direction.TheVariants as direction
use Rattle.bus.specs.declared.turn.Says.{Says}
use Rattle.bus.specs.declared.turn.Says.TheVariants.{Ack, Nak, Stall, Nyet}
use Rattle.bus.specs.declared.turn.Turn.{Turn}
use Rattle.bus.specs.Turn.{saying, noting}
use Rattle.bus.specs.Active.{chosen, chosen_buffer, active, place_of, filled}
use Rattle.bus.specs.Tokens.{is_halted, is_interrupt}

abbrev pub is_high : Speed → Bool
is_high Full = false
is_high High = true

-- ---- after OUT

abbrev pub flipped_out : Record → Record
flipped_out r = with_toggles r (record { out_side = not r.toggles.out_side; in_side = r.toggles.in_side })

-- event 6 if below maximum
unfoldable pub marked : Record → ℕ → Record
marked r n = cond (ltb n r.endpoint.maximum) (with_events r (noted r.events ShortPacket)) r

-- ACK; at high speed, for bulk and control, NYET if no buffer is active afterwards
unfoldable pub acceptance : Speed → Record → Says
acceptance speed r = cond (is_high speed && not (is_interrupt r.endpoint.transfer) && not (active direction.Out r)) Nyet Ack

-- store, flip the toggle, event 6 if below maximum
unfoldable pub taken : Record → ℕ → Record
taken r n = marked (flipped_out (filled r (chosen direction.Out r) n)) n

unfoldable pub taking : Speed → Record → ℕ → Turn
taking speed r n =
    record {
      after = taken r n;
      wait = Nothing;
      store = Some (place_of (chosen_buffer direction.Out r));
      says = acceptance speed (taken r n);
    }

-- halted: STALL. PID not the toggle: ACK, nothing stored. No active buffer: NAK. Above maximum: NAK. Else store
unfoldable pub after_out : Speed → Record → Bool → ℕ → Turn
after_out speed r toggle n =
    first_of
    ((is_halted r.condition, saying r Stall)
    ∷ (not (beq toggle r.toggles.out_side), saying r Ack)
    ∷ (not (active direction.Out r), saying r Nak)
    ∷ (ltb r.endpoint.maximum n, saying r Nak)
    ∷ [])
    (taking speed r n)

-- ---- after SETUP

-- store, ACK, both toggles DATA1, condition normal
unfoldable pub setting_up : Record → ℕ → Turn
setting_up r n =
    record {
      after = with_condition (with_toggles (filled r false n) (record { out_side = true; in_side = true })) Normal;
      wait = Nothing;
      store = Some (place_of (buffer_of r false));
      says = Ack;
    }

-- DATA0, 8 bytes and buffer 0 active: store; else event 5, silent
unfoldable pub after_setup : Record → Bool → ℕ → Turn
after_setup r toggle n = cond (not toggle && eqb n 8 && is_unused (buffer_of r false)) (setting_up r n) (noting r NotTaken)

-- ---- data awaited, in this order

abbrev pub staged : Speed → Stage → Record → Bool → ℕ → Turn
staged speed Setup r toggle n = after_setup r toggle n
staged speed Out r toggle n = after_out speed r toggle n

-- DATA2 or MDATA: event 2, silent; no other kind is good
abbrev pub sequenced : Speed → Stage → Record → Kind → ℕ → Turn
sequenced speed stage r pid.Data0 n = staged speed stage r false n
sequenced speed stage r pid.Data1 n = staged speed stage r true n
sequenced speed stage r pid.Data2 n = noting r OutOfPlace
sequenced speed stage r pid.Mdata n = noting r OutOfPlace
sequenced speed stage r pid.Out n = noting r OutOfPlace
sequenced speed stage r pid.In n = noting r OutOfPlace
sequenced speed stage r pid.Sof n = noting r OutOfPlace
sequenced speed stage r pid.Setup n = noting r OutOfPlace
sequenced speed stage r pid.Ack n = noting r OutOfPlace
sequenced speed stage r pid.Nak n = noting r OutOfPlace
sequenced speed stage r pid.Stall n = noting r OutOfPlace
sequenced speed stage r pid.Nyet n = noting r OutOfPlace
sequenced speed stage r pid.Pre n = noting r OutOfPlace
sequenced speed stage r pid.Split n = noting r OutOfPlace
sequenced speed stage r pid.Ping n = noting r OutOfPlace
sequenced speed stage r pid.Reserved n = noting r OutOfPlace

-- not good: event 1, silent
abbrev pub data_turn : Speed → Stage → Record → Option Kind → ℕ → Turn
data_turn speed stage r None n = noting r NotGood
data_turn speed stage r (Some kind) n = sequenced speed stage r kind n
