-- Document 01, "State": the ranges of a record.
use Rattle.std.specs.Prelude.{ℕ, ◌+◌, ◌-◌, ◌%◌, ◌≤◌, ◌≡◌, Bool, true, false, not, ◌&&◌, ◌||◌, cond, leb, ltb, eqb}
use Rattle.std.specs.Bool.{beq}
use Rattle.state.specs.declared.Speed.{Speed}
use Rattle.state.specs.declared.Speed.TheVariants.{Full, High}
use Rattle.state.specs.declared.Condition.{Condition}
use Rattle.state.specs.declared.Condition.TheVariants.{Off, Normal, Halted}
use Rattle.state.specs.declared.Kind.{Kind}
use Rattle.state.specs.declared.Kind.TheVariants as kind
use Rattle.state.specs.declared.Transfer.{Transfer}
use Rattle.state.specs.declared.Transfer.TheVariants as transfer
use Rattle.state.specs.declared.Endpoint.{Endpoint}
use Rattle.state.specs.declared.Toggles.{Toggles}
use Rattle.state.specs.declared.RecordEvents.{RecordEvents}
use Rattle.state.specs.declared.Descriptor.{Descriptor}
use Rattle.state.specs.declared.Descriptor.TheVariants.{Unallocated, Armed}
use Rattle.state.specs.declared.Record.{Record}
use Rattle.state.specs.Update.{off_record}

-- live: normal or halted
abbrev pub live : Condition → Bool
live Off = false
live Normal = true
live Halted = true

abbrev pub is_control : Kind → Bool
is_control kind.Control = true
is_control kind.In = false
is_control kind.Out = false

abbrev pub is_control_type : Transfer → Bool
is_control_type transfer.Control = true
is_control_type transfer.Bulk = false
is_control_type transfer.Interrupt = false

-- a control record has type control, and no other record has
abbrev pub type_fits : Kind → Transfer → Bool
type_fits k t = beq (is_control k) (is_control_type t)

abbrev pub small_size : ℕ → Bool
small_size m = eqb m 8 || eqb m 16 || eqb m 32 || eqb m 64

-- maximum payload: full speed control and bulk 8, 16, 32 or 64; high speed bulk 512, control 64; interrupt 1 to 64 at full speed, 1 to
-- 1,024 at high
abbrev pub maximum_fits : Speed → Transfer → ℕ → Bool
maximum_fits Full transfer.Control m = small_size m
maximum_fits Full transfer.Bulk m = small_size m
maximum_fits Full transfer.Interrupt m = leb 1 m && leb m 64
maximum_fits High transfer.Control m = eqb m 64
maximum_fits High transfer.Bulk m = eqb m 512
maximum_fits High transfer.Interrupt m = leb 1 m && leb m 1024

-- the values that configure is given are within the ranges: number 0 to 15, the type, the maximum payload
unfoldable pub endpoint_fits : Speed → Endpoint → Bool
endpoint_fits speed e =
    leb e.number 15 && type_fits e.kind e.transfer && maximum_fits speed e.transfer e.maximum

-- one toggle (control has two, OUT and IN): the one that a record does not have stays at DATA0
abbrev pub toggles_fit : Kind → Toggles → Bool
toggles_fit kind.Control t = true
toggles_fit kind.In t = not t.out_side
toggles_fit kind.Out t = not t.in_side

-- ---- descriptors

-- whether a record's buffer is of the OUT side: of a control record buffer 0 is, and buffer 1 is of the IN side
abbrev pub out_side : Kind → Bool → Bool
out_side kind.Control second = not second
out_side kind.In second = false
out_side kind.Out second = true

-- 0 or no multiple of the maximum
abbrev pub no_multiple : ℕ → ℕ → Bool
no_multiple length maximum = eqb length 0 || not (eqb (length % maximum) 0)

-- refusal 12: base above 131,070, length above 16,383, base + length above M, or an OUT-side length that is 0 or no multiple of the maximum
unfoldable pub misplaced : ℕ → Bool → ℕ → ℕ → ℕ → Bool
misplaced M out maximum base length =
    ltb 131070 base
    || ltb 16383 length
    || ltb M (base + length)
    || out && no_multiple length maximum

-- on the OUT side used exactly when left is below maximum; on the IN side used means left 0, and unused means left above 0 or length 0
unfoldable pub mark_fits : Bool → ℕ → ℕ → ℕ → Bool → Bool
mark_fits out maximum length left used =
    cond out (beq used (ltb left maximum)) (cond used (eqb left 0) (ltb 0 left || eqb length 0))

-- an armed descriptor: its span meets refusal 12, done is at most length, and the used mark is right
pub record ArmedSound (M : ℕ) (out : Bool) (maximum base length done : ℕ) (used : Bool) : Type 0 where
  pub placed : misplaced M out maximum base length ≡ false
  pub done_within : done ≤ length
  pub mark : mark_fits out maximum length (length - done) used ≡ true

abbrev pub DescriptorSound : ℕ → Bool → ℕ → Descriptor → Type 0
DescriptorSound M out maximum Unallocated = Unit {0}
DescriptorSound M out maximum (Armed base length done used) = ArmedSound M out maximum base length done used

abbrev pub descriptor_fits : ℕ → Bool → ℕ → Descriptor → Bool
descriptor_fits M out maximum Unallocated = true
descriptor_fits M out maximum (Armed base length done used) =
    not (misplaced M out maximum base length) && leb done length && mark_fits out maximum length (length - done) used

abbrev pub is_armed : Descriptor → Bool
is_armed Unallocated = false
is_armed (Armed base length done used) = true

-- armed and unused
abbrev pub is_unused : Descriptor → Bool
is_unused Unallocated = false
is_unused (Armed base length done used) = not used

-- what is done of it
abbrev pub done_of : Descriptor → ℕ
done_of Unallocated = 0
done_of (Armed base length done used) = done

-- ---- records

-- a live record within the ranges above
pub record LiveSound (M : ℕ) (speed : Speed) (r : Record) : Type 0 where
  pub endpoint_fitting : endpoint_fits speed r.endpoint ≡ true
  pub toggles_fitting : toggles_fit r.endpoint.kind r.toggles ≡ true
  pub first_sound : DescriptorSound M (out_side r.endpoint.kind false) r.endpoint.maximum r.first
  pub second_sound : DescriptorSound M (out_side r.endpoint.kind true) r.endpoint.maximum r.second

unfoldable pub live_fits : ℕ → Speed → Record → Bool
live_fits M speed r =
    endpoint_fits speed r.endpoint
    && toggles_fit r.endpoint.kind r.toggles
    && descriptor_fits M (out_side r.endpoint.kind false) r.endpoint.maximum r.first
    && descriptor_fits M (out_side r.endpoint.kind true) r.endpoint.maximum r.second

abbrev pub any_event : RecordEvents → Bool
any_event e =
    e.wait_ended
    || e.not_good
    || e.out_of_place
    || e.first_used
    || e.second_used
    || e.not_taken
    || e.short_packet

-- each field but the condition is zero
unfoldable pub is_zero : Record → Bool
is_zero r =
    is_control r.endpoint.kind
    && is_control_type r.endpoint.transfer
    && eqb r.endpoint.number 0
    && eqb r.endpoint.maximum 0
    && not r.next
    && not (any_event r.events)
    && not r.toggles.out_side
    && not r.toggles.in_side
    && not (is_armed r.first)
    && not (is_armed r.second)

-- an off record is all zero with nothing armed
abbrev pub SoundAs : Condition → ℕ → Speed → Record → Type 0
SoundAs Off M speed r = r ≡ off_record
SoundAs Normal M speed r = LiveSound M speed r
SoundAs Halted M speed r = LiveSound M speed r

abbrev pub RecordSound : ℕ → Speed → Record → Type 0
RecordSound M speed r = SoundAs r.condition M speed r

unfoldable pub record_fits : ℕ → Speed → Record → Bool
record_fits M speed r = cond (live r.condition) (live_fits M speed r) (is_zero r)
