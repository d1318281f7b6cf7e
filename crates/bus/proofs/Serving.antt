-- The record that a token or a wait is for: it is live, on that side, and its chosen buffer is of that side. Assumes nothing.
use Prim.Native.Nat.{ℕ, ◌-◌, ◌<◌, min}
use mathlib.Core.Path.{◌≡◌, refl}
use mathlib.Core.Bool.{Bool, true, false, ◌||◌, cond, false≢true}
use borrow.Author.Tests.{eq-eqb}
use Rattle.state.specs.declared.Kind.{Kind}
use Rattle.state.specs.declared.Kind.TheVariants as kind
use Rattle.state.specs.declared.Descriptor.{Descriptor}
use Rattle.state.specs.declared.Descriptor.TheVariants.{Unallocated, Armed}
use Rattle.state.specs.declared.Record.{Record}
use Rattle.state.specs.declared.Stage.{Stage}
use Rattle.state.specs.declared.Wait.TheVariants.{Data}
use Rattle.state.specs.declared.Core.{Core}
use Rattle.state.specs.Update.{with_next, record_at}
use Rattle.state.specs.Ranges.{live, is_control, out_side, is_unused, LiveSound}
use Rattle.state.specs.Served.{serves_out, serves_in}
use Rattle.state.specs.Sound.{sends, sender, WaitSound, Sound}
use Rattle.state.proofs.Kept.{as_live}
use Rattle.bus.specs.declared.active.Direction.{Direction}
use Rattle.bus.specs.declared.active.Direction.TheVariants.{Out, In}
use Rattle.bus.specs.Active.{serves, chosen, left_of}
use Rattle.bus.proofs.Moved.{Moved, moved_same}

pub record Serving (core : Core) (i : ℕ) (direction : Direction) : Type 0 where
  pub index : i < 16
  pub is_live : live (record_at core i).condition ≡ true
  pub side : serves direction (record_at core i).endpoint.kind ≡ true

pub awaiting : (core : Core) (i : ℕ) (stage : Stage) → WaitSound core (Data i stage) → Serving core i Out
awaiting core i stage v = record { index = v.0; is_live = v.1.is_live; side = v.1.out_side_served }

module _ (core : Core) (w : Sound core) (i : ℕ) (direction : Direction) (v : Serving core i direction) where
  pub its_sound : LiveSound core.memory_size core.speed (record_at core i)
  its_sound = as_live (record_at core i).condition core.memory_size core.speed (record_at core i) v.is_live (w.each_record i v.index)

  pub stays : Moved core.memory_size core.speed (record_at core i) (record_at core i)
  stays = moved_same core.memory_size core.speed (record_at core i) its_sound v.is_live

-- ---- the chosen buffer is of the side

pub out_chosen : (r : Record) → serves_out r.endpoint.kind ≡ true → out_side r.endpoint.kind (chosen Out r) ≡ true
unfolding chosen
out_chosen r s = go r.endpoint.kind _ s
  where
    go : (k : Kind) (b : Bool) → serves_out k ≡ true → out_side k (cond (is_control k) false b) ≡ true
    go kind.Control b s = refl
    go kind.In b s = absurd (false≢true s)
    go kind.Out b s = refl

-- control's buffer 0 is of the OUT side
pub control_out : (k : Kind) → is_control k ≡ true → out_side k false ≡ true
control_out kind.Control e = refl
control_out kind.In e = absurd (false≢true e)
control_out kind.Out e = absurd (false≢true e)

pub in_chosen : (r : Record) → serves_in r.endpoint.kind ≡ true → out_side r.endpoint.kind (chosen In r) ≡ false
unfolding chosen
in_chosen r s = go r.endpoint.kind _ s
  where
    go : (k : Kind) (b : Bool) → serves_in k ≡ true → out_side k (cond (is_control k) true b) ≡ false
    go kind.Control b s = refl
    go kind.In b s = refl
    go kind.Out b s = absurd (false≢true s)

-- the buffer that sends: control 1, otherwise the next mark's
pub in_sender : (r : Record) → chosen In r ≡ sender (with_next r (chosen In r))
unfolding chosen
in_sender r = go (is_control r.endpoint.kind) _
  where
    go : (c b : Bool) → cond c true b ≡ (c || cond c true b)
    go true b = refl
    go false b = refl

-- an unused buffer sends min(maximum, left) bytes
pub sends_left : (maximum : ℕ) (d : Descriptor) → is_unused d ≡ true → sends maximum (min maximum (left_of d)) d ≡ true
sends_left maximum Unallocated u = u
sends_left maximum (Armed base length done true) u = u
sends_left maximum (Armed base length done false) u = eq-eqb (min maximum (length - done)) (min maximum (length - done)) refl
