-- A record that passes the test for zeros is the off record. Assumes nothing.
use mathlib.Core.Path.{◌≡◌, refl}
use mathlib.Core.Bool.{true, false, not, false≢true, true≢false}
use mathlib.Core.List.{[], ◌∷◌}
use lib.Dec.{eqb}
use borrow.Author.Tests.{not-true, eqb-true}
use Rattle.laws.proofs.Bools.{parts, neither}
use Rattle.state.specs.declared.Condition.{Condition}
use Rattle.state.specs.declared.Condition.TheVariants.{Off, Normal, Halted}
use Rattle.state.specs.declared.Kind.{Kind}
use Rattle.state.specs.declared.Kind.TheVariants as kind
use Rattle.state.specs.declared.Transfer.{Transfer}
use Rattle.state.specs.declared.Transfer.TheVariants as transfer
use Rattle.state.specs.declared.Descriptor.{Descriptor}
use Rattle.state.specs.declared.Descriptor.TheVariants.{Unallocated, Armed}
use Rattle.state.specs.declared.RecordEvents.{RecordEvents}
use Rattle.state.specs.declared.Record.{Record}
use Rattle.state.specs.Update.{no_events, off_record}
use Rattle.state.specs.Ranges.{live, is_control, is_control_type, is_armed, any_event, is_zero}

off : (c : Condition) → live c ≡ false → c ≡ Off
off Off e = refl
off Normal e = absurd (true≢false e)
off Halted e = absurd (true≢false e)

control : (k : Kind) → is_control k ≡ true → k ≡ kind.Control
control kind.Control e = refl
control kind.In e = absurd (false≢true e)
control kind.Out e = absurd (false≢true e)

control_type : (t : Transfer) → is_control_type t ≡ true → t ≡ transfer.Control
control_type transfer.Control e = refl
control_type transfer.Bulk e = absurd (false≢true e)
control_type transfer.Interrupt e = absurd (false≢true e)

unallocated : (d : Descriptor) → not (is_armed d) ≡ true → d ≡ Unallocated
unallocated Unallocated e = refl
unallocated (Armed base length done used) e = absurd (false≢true e)

none : (e : RecordEvents) → any_event e ≡ false → e ≡ no_events
none e h =
    let a = neither _ e.short_packet h in
    let b = neither _ e.not_taken a.0 in
    let c = neither _ e.second_used b.0 in
    let d = neither _ e.first_used c.0 in
    let f = neither _ e.out_of_place d.0 in
    let g = neither e.wait_ended e.not_good f.0 in
    rw (g.0, g.1, f.1, d.1, c.1, b.1, a.1)

pub zero_off : (r : Record) → live r.condition ≡ false → is_zero r ≡ true → r ≡ off_record
unfolding is_zero
zero_off r h z =
    let p = parts (is_control r.endpoint.kind) (is_control_type r.endpoint.transfer ∷ eqb r.endpoint.number 0 ∷ eqb r.endpoint.maximum 0 ∷ not r.next ∷ not (any_event r.events) ∷ not r.toggles.out_side ∷ not r.toggles.in_side ∷ not (is_armed r.first) ∷ not (is_armed r.second) ∷ []) z in
    rw (off r.condition h, control r.endpoint.kind p.0, control_type r.endpoint.transfer p.1.0, eqb-true r.endpoint.number 0 p.1.1.0, eqb-true r.endpoint.maximum 0 p.1.1.1.0, not-true r.next p.1.1.1.1.0, none r.events (not-true (any_event r.events) p.1.1.1.1.1.0), not-true r.toggles.out_side p.1.1.1.1.1.1.0, not-true r.toggles.in_side p.1.1.1.1.1.1.1.0, unallocated r.first p.1.1.1.1.1.1.1.1.0, unallocated r.second p.1.1.1.1.1.1.1.1.1.0)
