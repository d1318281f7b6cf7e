-- Cases of demand 2, of any behaviour, that the frauds break: "each reply, store, toggle and event is the one that document 01 gives."
use Rattle.std.specs.Prelude.{ℕ, ◌≤◌, ◌≡◌, Bool, true, false, not, ◌&&◌, ◌||◌, cond, Some, None, Ok, List, [], ◌∷◌, leb, eqb, length}
use Rattle.wire.specs.declared.pid.Kind.{Kind}
use Rattle.wire.specs.declared.pid.Kind.TheVariants as pid
use Rattle.wire.specs.Pid.{number, pid_byte}
use Rattle.wire.specs.Data.{verdict_of, payload_of}
use Rattle.state.specs.declared.Record.{Record}
use Rattle.state.specs.declared.Stage.{Stage}
use Rattle.state.specs.declared.Stage.TheVariants as stage
use Rattle.state.specs.declared.Wait.TheVariants as wait
use Rattle.state.specs.declared.Core.{Core}
use Rattle.state.specs.Update.{buffer_of, record_at}
use Rattle.state.specs.Ranges.{is_control, is_armed, done_of}
use Rattle.state.specs.Sound.{Sound}
use Rattle.bus.specs.declared.active.Direction.TheVariants.{Out}
use Rattle.bus.specs.declared.Answer.TheVariants.{Silent}
use Rattle.bus.specs.Turn.{written}
use Rattle.bus.specs.Active.{chosen_buffer, active, place_of}
use Rattle.bus.specs.Tokens.{is_halted}
use Rattle.bus.specs.Arrival.{is_data_first}
use Rattle.demands.specs.Behaviour.{Lent, Packet, ToBus, heard, Behaviour}

-- what refusals 2 and 3 ask: M bytes of memory, and a reply buffer of 1,027 bytes or more
abbrev pub lends : Core → Lent → Bool
lends core lent = eqb (length lent.memory) core.memory_size && leb 1027 (length lent.reply)

-- the byte of a handshake
abbrev pub handshake : Kind → List ℕ
handshake k = pid_byte (number k) ∷ []

-- ACK and NYET say that the payload was taken
abbrev pub is_acceptance : List ℕ → Bool
is_acceptance [] = false
is_acceptance (b ∷ []) = eqb b (pid_byte (number pid.Ack)) || eqb b (pid_byte (number pid.Nyet))
is_acceptance (b ∷ c ∷ bytes) = false

-- the data PID of the record's OUT toggle
abbrev pub toggle_pid : Record → Kind
toggle_pid r = cond r.toggles.out_side pid.Data1 pid.Data0

-- after OUT: not halted, and a good packet under the toggle
pub record InTurn (core : Core) (lent : Lent) (i : ℕ) (p : List ℕ) : Type 0 where
  pub sound : Sound core
  pub lent_whole : lends core lent ≡ true
  pub waits : core.wait ≡ wait.Data i stage.Out
  pub not_halted : is_halted (record_at core i).condition ≡ false
  pub under_toggle : verdict_of p ≡ Some (toggle_pid (record_at core i))

-- "Else store, .. answer ACK; at high speed .. NYET": the payload's bytes stand in the memory from base + done, and no other byte changed
abbrev pub StoreCase : Behaviour → Type 0
StoreCase B =
    (core : Core) (lent : Lent) (i : ℕ) (p : List ℕ)
    → InTurn core lent i p
    → active Out (record_at core i) ≡ true
    → length (payload_of p) ≤ (record_at core i).endpoint.maximum
    → (is_acceptance (heard (B core lent (Packet p))) ≡ true) × ((B core lent (Packet p)).lent.memory ≡ written (place_of (chosen_buffer Out (record_at core i))) (payload_of p) lent.memory)

-- "No active buffer: NAK."
abbrev pub NakCase : Behaviour → Type 0
NakCase B =
    (core : Core) (lent : Lent) (i : ℕ) (p : List ℕ)
    → InTurn core lent i p
    → active Out (record_at core i) ≡ false
    → (heard (B core lent (Packet p)) ≡ handshake pid.Nak) × ((B core lent (Packet p)).lent.memory ≡ lent.memory)

-- "Data awaited, in this order: not good: event 1, silent."
abbrev pub NotGoodCase : Behaviour → Type 0
NotGoodCase B =
    (core : Core) (lent : Lent) (i : ℕ) (s : Stage) (p : List ℕ)
    → Sound core
    → lends core lent ≡ true
    → core.wait ≡ wait.Data i s
    → is_data_first p ≡ true
    → verdict_of p ≡ None
    → ((B core lent (Packet p)).answer ≡ ToBus (Ok Silent)) × ((B core lent (Packet p)).lent ≡ lent)

-- "Otherwise the marked one if allocated, else the other. .. a used marked buffer is not skipped": while the marked buffer is allocated nothing is
-- counted to the other, so the buffers are filled and emptied in the order of the mark. "Choosing any free buffer: after one is used, order is lost."
abbrev pub MarkCase : Behaviour → Type 0
MarkCase B =
    (core : Core) (lent : Lent) (i : ℕ) (p : List ℕ)
    → Sound core
    → is_control (record_at core i).endpoint.kind ≡ false
    → is_armed (buffer_of (record_at core i) (record_at core i).next) ≡ true
    → done_of (buffer_of (record_at (B core lent (Packet p)).core i) (not (record_at core i).next)) ≡ done_of (buffer_of (record_at core i) (not (record_at core i).next))
