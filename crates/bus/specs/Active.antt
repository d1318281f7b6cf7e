-- Document 01, "A packet arrives": the active buffer, and how its descriptor moves on.
use Rattle.std.specs.Prelude.{ℕ, ◌+◌, ◌-◌, ◌<◌, Bool, true, false, not, cond, ltb, eqb}
use Rattle.state.specs.declared.Kind.{Kind}
use Rattle.state.specs.declared.RecordEvent.{RecordEvent}
use Rattle.state.specs.declared.RecordEvent.TheVariants.{FirstUsed, SecondUsed}
use Rattle.state.specs.declared.Descriptor.{Descriptor}
use Rattle.state.specs.declared.Descriptor.TheVariants.{Unallocated, Armed}
use Rattle.state.specs.declared.Record.{Record}
use Rattle.state.specs.Update.{with_next, with_events, with_toggles, noted, buffer_of, with_buffer}
use Rattle.state.specs.Ranges.{is_control, is_armed, is_unused, done_of}
use Rattle.state.specs.Served.{serves_out, serves_in}
use Rattle.bus.specs.declared.active.Direction.{Direction}
use Rattle.bus.specs.declared.active.Direction.TheVariants.{Out, In}
use Rattle.bus.specs.declared.turn.Says.TheVariants.{Silence}
use Rattle.bus.specs.declared.turn.Turn.{Turn}
use Rattle.bus.specs.Turn.{saying}

abbrev pub serves : Direction → Kind → Bool
serves Out kind = serves_out kind
serves In kind = serves_in kind

-- ---- the active buffer

abbrev pub is_in : Direction → Bool
is_in Out = false
is_in In = true

-- control uses 0 for OUT, 1 for IN; otherwise the marked one if allocated, else the other
unfoldable pub chosen : Direction → Record → Bool
chosen direction r =
    cond (is_control r.endpoint.kind) (is_in direction)
    (cond (is_armed (buffer_of r r.next)) r.next (not r.next))

abbrev pub chosen_buffer : Direction → Record → Descriptor
chosen_buffer direction r = buffer_of r (chosen direction r)

-- it is active only if armed and unused: a used marked buffer is not skipped
unfoldable pub active : Direction → Record → Bool
active direction r = is_unused (chosen_buffer direction r)

-- ---- a descriptor

-- left = length - done
abbrev pub left_of : Descriptor → ℕ
left_of Unallocated = 0
left_of (Armed base length done used) = length - done

-- the place from base + done
abbrev pub place_of : Descriptor → ℕ
place_of Unallocated = 0
place_of (Armed base length done used) = base + done

-- the sum of done and n is a number of 32 bits, in either buffer
abbrev pub Roomy : Record → ℕ → Type 0
Roomy r n = (done_of r.first + n < 4294967296) × (done_of r.second + n < 4294967296)

-- done grows by n
abbrev pub grown : Descriptor → ℕ → Descriptor
grown Unallocated n = Unallocated
grown (Armed base length done used) n = Armed base length (done + n) used

abbrev pub spent : Descriptor → Descriptor
spent Unallocated = Unallocated
spent (Armed base length done used) = Armed base length done true

-- ---- what is stored, and what is acknowledged

-- event 3 or 4 (buffer 0 or 1)
abbrev pub used_event : Bool → RecordEvent
used_event second = cond second SecondUsed FirstUsed

-- used, event 3 or 4, next mark to the other
unfoldable pub used_up : Record → Bool → Record
used_up r second =
    with_next (with_events (with_buffer r second (spent (buffer_of r second))) (noted r.events (used_event second))) (not second)

-- done grows by their number; left below maximum: used, event 3 or 4, next mark to the other; else next mark to this one
unfoldable pub filled : Record → Bool → ℕ → Record
filled r second n =
    let d = grown (buffer_of r second) n in
    let q = with_buffer r second d in
    cond (ltb (left_of d) r.endpoint.maximum) (used_up q second) (with_next q second)

abbrev pub flipped_in : Record → Record
flipped_in r = with_toggles r (record { out_side = r.toggles.out_side; in_side = not r.toggles.in_side })

-- ACK awaited: done grows by the length sent, toggle flips; left 0: used, event and mark as above
unfoldable pub acknowledged : Record → Bool → ℕ → Turn
acknowledged r second n =
    let d = grown (buffer_of r second) n in
    let q = flipped_in (with_buffer r second d) in
    saying (cond (eqb (left_of d) 0) (used_up q second) q) Silence
