-- Document 01, "A packet arrives": the tokens that are for a record.
use Rattle.std.specs.Prelude.{ℕ, min, Bool, true, false, not, cond, [], ◌∷◌, None}
use Rattle.laws.specs.Lists.{first_of}
use Rattle.state.specs.declared.Condition.{Condition}
use Rattle.state.specs.declared.Condition.TheVariants.{Off, Normal, Halted}
use Rattle.state.specs.declared.Transfer.{Transfer}
use Rattle.state.specs.declared.Transfer.TheVariants.{Control, Bulk, Interrupt}
use Rattle.state.specs.declared.RecordEvent.TheVariants.{OutOfPlace}
use Rattle.state.specs.declared.Record.{Record}
use Rattle.state.specs.declared.Stage.TheVariants as stage
use Rattle.state.specs.declared.Wait.TheVariants as wait
use Rattle.state.specs.Update.{with_next}
use Rattle.state.specs.Ranges.{is_control}
use Rattle.bus.specs.declared.active.Direction.{Direction}
use Rattle.bus.specs.declared.active.Direction.TheVariants as direction
use Rattle.bus.specs.declared.turn.Says.TheVariants.{Ack, Nak, Stall, Data}
use Rattle.bus.specs.declared.turn.Turn.{Turn}
use Rattle.bus.specs.declared.token.Asks.{Asks}
use Rattle.bus.specs.declared.token.Asks.TheVariants.{Out, Setup, Ping, In}
use Rattle.bus.specs.Turn.{saying, noting, waiting}
use Rattle.bus.specs.Active.{chosen, chosen_buffer, active, left_of, place_of}

-- OUT, SETUP, PING look on the OUT side
abbrev pub direction_of : Asks → Direction
direction_of Out = direction.Out
direction_of Setup = direction.Out
direction_of Ping = direction.Out
direction_of In = direction.In

abbrev pub is_halted : Condition → Bool
is_halted Off = false
is_halted Normal = false
is_halted Halted = true

abbrev pub is_interrupt : Transfer → Bool
is_interrupt Control = false
is_interrupt Bulk = false
is_interrupt Interrupt = true

-- OUT: wait for data
abbrev pub on_out : ℕ → Record → Turn
on_out i r = waiting r (wait.Data i stage.Out)

-- SETUP: the same on control; else record event 2, silent
unfoldable pub on_setup : ℕ → Record → Turn
on_setup i r = cond (is_control r.endpoint.kind) (waiting r (wait.Data i stage.Setup)) (noting r OutOfPlace)

-- PING: interrupt: event 2, silent. Halted: STALL. Active buffer: ACK. Else NAK
unfoldable pub on_ping : Record → Turn
on_ping r =
    first_of
    ((is_interrupt r.endpoint.transfer, noting r OutOfPlace)
    ∷ (is_halted r.condition, saying r Stall)
    ∷ (active direction.Out r, saying r Ack)
    ∷ [])
    (saying r Nak)

-- min(maximum, left) bytes
abbrev pub count_of : Record → ℕ
count_of r = min r.endpoint.maximum (left_of (chosen_buffer direction.In r))

-- send min(maximum, left) bytes under the toggle, set the next mark to this buffer, wait for ACK
unfoldable pub sending : ℕ → Record → Turn
sending i r =
    record {
      after = with_next r (chosen direction.In r);
      wait = wait.Acknowledge i (chosen direction.In r) (count_of r);
      store = None;
      says = Data r.toggles.in_side (place_of (chosen_buffer direction.In r)) (count_of r);
    }

-- IN: halted: STALL. No active buffer: NAK. Else send
unfoldable pub on_in : ℕ → Record → Turn
on_in i r =
    first_of
    ((is_halted r.condition, saying r Stall) ∷ (not (active direction.In r), saying r Nak) ∷ [])
    (sending i r)

abbrev pub turn_of : Asks → ℕ → Record → Turn
turn_of Out i r = on_out i r
turn_of Setup i r = on_setup i r
turn_of Ping i r = on_ping r
turn_of In i r = on_in i r
