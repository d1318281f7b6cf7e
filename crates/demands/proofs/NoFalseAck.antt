-- What the host holds acknowledged is stored: those stored are the first of its list, and no fewer. Assumes nothing.
use native.Mathlib.Omega.{arith}
use mathlib.Core.Path.{◌∙◌, ap}
use mathlib.Core.Logic.{⊎_elim}
use mathlib.Core.List.{List}
use Prim.Native.Nat.{ℕ, ◌≤◌}
use lib.ListN.{length, take}
use lib.Seq.{take-take}
use Rattle.state.specs.declared.Core.{Core}
use Rattle.demands.specs.Behaviour.{Behaviour, the_core}
use Rattle.demands.specs.Host.{Setting, Happening, World, after, begin}
use Rattle.demands.specs.Demand3.{Fresh, AllAllowed, Kept, NoFalseAck}
use Rattle.demands.proofs.DemandThree.{demand3}

kept_so : (B : Behaviour) (s : Setting) (w : World) → Kept B s w → NoFalseAck s w
kept_so B s w k =
    record {
      as_many = enough;
      the_same = ap (take w.acknowledged) k.order ∙ take-take w.acknowledged (length w.stored) s.payloads enough;
    }
  where
    enough : w.acknowledged ≤ length w.stored
    enough = ⊎_elim (λ e. omega (arith, e)) (λ e. omega (arith, e)) k.count

pub no_false_ack : (s : Setting) (core : Core) (hs : List Happening) → Fresh s core → AllAllowed the_core s (begin core) hs → (n : ℕ) → NoFalseAck s (after the_core s (begin core) (take n hs))
no_false_ack s core hs fresh ok n = kept_so the_core s (after the_core s (begin core) (take n hs)) (demand3 s core hs fresh ok n)
