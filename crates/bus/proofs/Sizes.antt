-- The least and the greatest maximum payload of a record within the ranges. Assumes nothing.
use Prim.Native.Nat.{ℕ, ◌≤◌}
use native.Mathlib.Omega.{arith}
use mathlib.Core.Path.{◌≡◌}
use mathlib.Core.Bool.{true, ◌&&◌, ◌||◌, beq, false≢true}
use lib.Dec.{leb, eqb}
use borrow.Author.Tests.{leb-true, eqb-true}
use Rattle.laws.proofs.Bools.{both, either}
use Rattle.state.specs.declared.Speed.{Speed}
use Rattle.state.specs.declared.Speed.TheVariants.{Full, High}
use Rattle.state.specs.declared.Transfer.{Transfer}
use Rattle.state.specs.declared.Transfer.TheVariants.{Control, Bulk, Interrupt}
use Rattle.state.specs.declared.Endpoint.{Endpoint}
use Rattle.state.specs.Ranges.{is_control, is_control_type, type_fits, small_size, maximum_fits, endpoint_fits}

small : (m : ℕ) → small_size m ≡ true → (8 ≤ m) × (m ≤ 64)
small m e =
    either (eqb m 8 || eqb m 16 || eqb m 32) (eqb m 64)
    (either (eqb m 8 || eqb m 16) (eqb m 32)
    (either (eqb m 8) (eqb m 16)
    (λ f. let k = eqb-true m 8 f in (omega arith, omega arith))
    (λ f. let k = eqb-true m 16 f in (omega arith, omega arith)))
    (λ f. let k = eqb-true m 32 f in (omega arith, omega arith)))
    (λ f. let k = eqb-true m 64 f in (omega arith, omega arith))
    e

most : (speed : Speed) (t : Transfer) (m : ℕ) → maximum_fits speed t m ≡ true → m ≤ 1024
most Full Control m e = let k = (small m e).1 in omega arith
most Full Bulk m e = let k = (small m e).1 in omega arith
most Full Interrupt m e = let k = leb-true m 64 (both (leb 1 m) (leb m 64) e).1 in omega arith
most High Control m e = let k = eqb-true m 64 e in omega arith
most High Bulk m e = let k = eqb-true m 512 e in omega arith
most High Interrupt m e = leb-true m 1024 (both (leb 1 m) (leb m 1024) e).1

least : (speed : Speed) (t : Transfer) (m : ℕ) → beq true (is_control_type t) ≡ true → maximum_fits speed t m ≡ true → 8 ≤ m
least Full Control m c e = (small m e).0
least High Control m c e = let k = eqb-true m 64 e in omega arith
least speed Bulk m c e = absurd (false≢true c)
least speed Interrupt m c e = absurd (false≢true c)

module _ (speed : Speed) (p : Endpoint) (fits : endpoint_fits speed p ≡ true) where
  pub maximum_most : p.maximum ≤ 1024
  unfolding endpoint_fits
  maximum_most =
      most speed p.transfer p.maximum (both (leb p.number 15 && type_fits p.kind p.transfer) (maximum_fits speed p.transfer p.maximum) fits).1

  pub control_least : is_control p.kind ≡ true → 8 ≤ p.maximum
  unfolding endpoint_fits
  control_least c =
      let a = both (leb p.number 15 && type_fits p.kind p.transfer) (maximum_fits speed p.transfer p.maximum) fits in
      let b = both (leb p.number 15) (type_fits p.kind p.transfer) a.0 in
      least speed p.transfer p.maximum (rw c at b.1) a.1
