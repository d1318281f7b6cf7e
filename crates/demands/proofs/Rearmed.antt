-- A buffer that is armed or disarmed: no done count moves up, and arming one that is not armed and unused leaves an active buffer. Assumes nothing.
use Prim.Native.Nat.{ℕ}
use native.Mathlib.Omega.{arith}
use mathlib.Core.Path.{◌≡◌, refl, sym, ◌∙◌}
use mathlib.Core.Bool.{Bool, true, false, not, cond, true≢false}
use mathlib.Core.List.{List, []}
use lib.ListN.{length}
use borrow.Author.Tests.{le-ltb}
use Rattle.state.specs.declared.Descriptor.{Descriptor}
use Rattle.state.specs.declared.Descriptor.TheVariants.{Unallocated, Armed}
use Rattle.state.specs.declared.Record.{Record}
use Rattle.state.specs.Update.{buffer_of, with_buffer}
use Rattle.state.specs.Ranges.{is_control, is_armed, is_unused}
use Rattle.bus.specs.declared.active.Direction.TheVariants.{Out}
use Rattle.bus.specs.Active.{chosen, active}
use Rattle.demands.specs.Host.{grew, stored_in}
use Rattle.demands.proofs.Spared.{Spared, toggle_stays, never_grew}

-- no done count moves up
pub armed_anew : (base length : ℕ) (d : Descriptor) → grew d (Armed base length 0 false) ≡ false
armed_anew base length Unallocated = refl
armed_anew base length (Armed b l done used) = le-ltb done 0 (omega arith)

pub disarmed : (d : Descriptor) → grew d Unallocated ≡ false
disarmed Unallocated = refl
disarmed (Armed b l done used) = refl

pub buffer_spared : (r : Record) (second : Bool) (d : Descriptor) → ((old : Descriptor) → grew old d ≡ false) → Spared r (with_buffer r second d)
buffer_spared r second d f = record { same_condition = refl; same_endpoint = refl; same_toggle = refl; none_stored = none second }
  where
    none : (second : Bool) (memory : List ℕ) → stored_in r (with_buffer r second d) memory ≡ []
    none false memory = rw (toggle_stays r.toggles.out_side, f r.first, never_grew r.second)
    none true memory = rw (toggle_stays r.toggles.out_side, never_grew r.first, f r.second)

-- arming a buffer that is not armed or used: the active one is another, or the marked one is now active
pub arm_active : (r : Record) (second : Bool) (base length : ℕ) → is_unused (buffer_of r second) ≡ false → active Out r ≡ true → active Out (with_buffer r second (Armed base length 0 false)) ≡ true
unfolding active chosen
arm_active r second base length = go (is_control r.endpoint.kind) r.next second r.first r.second
  where
    active_of : Bool → Bool → Descriptor → Descriptor → Bool
    active_of control next first other = is_unused (cond (cond control false (cond (is_armed (cond next other first)) next (not next))) other first)

    d : Descriptor
    d = Armed base length 0 false

    clash : {x : Bool} (P : Type 0) → x ≡ false → x ≡ true → P
    clash P u a = absurd (true≢false (sym a ∙ u))

    go : (control next second : Bool) (f o : Descriptor) → is_unused (cond second o f) ≡ false → active_of control next f o ≡ true → active_of control next (cond second f d) (cond second d o) ≡ true
    go true next false f o u a = clash _ u a
    go true next true f o u a = a
    go false false false Unallocated o u a = refl
    go false false false (Armed b l x y) o u a = clash _ u a
    go false false true Unallocated o u a = clash _ u a
    go false false true (Armed b l x y) o u a = a
    go false true false f Unallocated u a = clash _ u a
    go false true false f (Armed b l x y) u a = a
    go false true true f Unallocated u a = refl
    go false true true f (Armed b l x y) u a = clash _ u a
