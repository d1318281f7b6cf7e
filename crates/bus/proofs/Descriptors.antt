-- What a sound descriptor has room for, and that it stays sound as bytes are stored or acknowledged. Assumes nothing.
use Prim.Native.Nat.{ℕ, ◌+◌, ◌-◌, ◌<◌, ◌≤◌, min}
use native.Mathlib.Omega.{arith}
use mathlib.Core.Path.{◌≡◌, refl}
use mathlib.Core.Bool.{Bool, true, false, not, ◌&&◌, ◌||◌, cond, beq, false≢true}
use lib.Dec.{ltb, eqb}
use borrow.Author.Tests.{ltb-false, lt-ltb, eqb-true, eqb-false}
use Rattle.laws.proofs.Bools.{both, neither}
use Rattle.state.specs.declared.Descriptor.{Descriptor}
use Rattle.state.specs.declared.Descriptor.TheVariants.{Unallocated, Armed}
use Rattle.state.specs.Ranges.{no_multiple, misplaced, mark_fits, DescriptorSound, is_unused, done_of}
use Rattle.state.specs.Spans.{spans_in}
use Rattle.state.specs.Sound.{sends}
use Rattle.bus.specs.Active.{left_of, place_of, grown, spent}

-- the span is of the memory, and short
placed_within : (M : ℕ) (out : Bool) (maximum base length : ℕ) → misplaced M out maximum base length ≡ false → (length ≤ 16383) × (base + length ≤ M)
unfolding misplaced
placed_within M out maximum base length e =
    let a = neither (ltb 131070 base || ltb 16383 length || ltb M (base + length)) (out && no_multiple length maximum) e in
    let b = neither (ltb 131070 base || ltb 16383 length) (ltb M (base + length)) a.0 in
    (ltb-false 16383 length (neither (ltb 131070 base) (ltb 16383 length) b.0).1, ltb-false M (base + length) b.1)

pub done_small : (M : ℕ) (out : Bool) (maximum : ℕ) (d : Descriptor) → DescriptorSound M out maximum d → done_of d ≤ 16383
done_small M out maximum Unallocated s = omega arith
done_small M out maximum (Armed base length done used) s =
    let p = placed_within M out maximum base length s.placed in
    omega (arith, p.0, s.done_within)

-- ---- the OUT side

-- an unused buffer has room for a whole packet
unused_left : (maximum length left : ℕ) → mark_fits true maximum length left false ≡ true → maximum ≤ left
unfolding mark_fits
unused_left maximum length left e = ltb-false left maximum (pick (ltb left maximum) e)
  where
    pick : (b : Bool) → beq false b ≡ true → b ≡ false
    pick true e = absurd (false≢true e)
    pick false e = refl

module _ (M maximum n : ℕ) (most : n ≤ maximum) where
  pub out_room : (d : Descriptor) → DescriptorSound M true maximum d → is_unused d ≡ true → place_of d + n ≤ M
  out_room Unallocated s u = absurd (false≢true u)
  out_room (Armed base length done true) s u = absurd (false≢true u)
  out_room (Armed base length done false) s u =
      let p = placed_within M true maximum base length s.placed in
      let l = unused_left maximum length (length - done) s.mark in
      omega (arith, p.1, l, s.done_within, most)

  pub stored_sound : (d : Descriptor) → DescriptorSound M true maximum d → is_unused d ≡ true → DescriptorSound M true maximum (cond (ltb (left_of (grown d n)) maximum) (spent (grown d n)) (grown d n))
  unfolding mark_fits
  stored_sound Unallocated s u = absurd (false≢true u)
  stored_sound (Armed base length done true) s u = absurd (false≢true u)
  stored_sound (Armed base length done false) s u = pick (ltb (length - (done + n)) maximum) refl
    where
      l : maximum ≤ length - done
      l = unused_left maximum length (length - done) s.mark

      fits : (used : Bool) → ltb (length - (done + n)) maximum ≡ used → mark_fits true maximum length (length - (done + n)) used ≡ true
      fits true e = rw e
      fits false e = rw e

      pick : (b : Bool) → ltb (length - (done + n)) maximum ≡ b → DescriptorSound M true maximum (cond b (Armed base length (done + n) true) (Armed base length (done + n) false))
      pick true e = record { placed = s.placed; done_within = omega (arith, l, most, s.done_within); mark = fits true e }
      pick false e = record { placed = s.placed; done_within = omega (arith, l, most, s.done_within); mark = fits false e }

-- ---- the IN side

-- what is sent is of the memory
pub in_room : (M maximum : ℕ) (d : Descriptor) → DescriptorSound M false maximum d → is_unused d ≡ true → place_of d + min maximum (left_of d) ≤ M
in_room M maximum Unallocated s u = absurd (false≢true u)
in_room M maximum (Armed base length done used) s u =
    let p = placed_within M false maximum base length s.placed in
    omega (arith, p.1, s.done_within)

pub sent_most : (maximum sent : ℕ) (d : Descriptor) → sends maximum sent d ≡ true → sent ≤ maximum
sent_most maximum sent Unallocated e = absurd (false≢true e)
sent_most maximum sent (Armed base length done used) e =
    let m : sent ≡ min maximum (length - done) = eqb-true sent (min maximum (length - done)) (both (not used) (eqb sent (min maximum (length - done))) e).1 in
    omega (arith, m)

pub sent_sound : (M maximum sent : ℕ) (d : Descriptor) → DescriptorSound M false maximum d → sends maximum sent d ≡ true → DescriptorSound M false maximum (cond (eqb (left_of (grown d sent)) 0) (spent (grown d sent)) (grown d sent))
unfolding mark_fits
sent_sound M maximum sent Unallocated s e = absurd (false≢true e)
sent_sound M maximum sent (Armed base length done true) s e = absurd (false≢true e)
sent_sound M maximum sent (Armed base length done false) s e = pick (eqb (length - (done + sent)) 0) refl
  where
    m : sent ≡ min maximum (length - done)
    m = eqb-true sent (min maximum (length - done)) e

    some : eqb (length - (done + sent)) 0 ≡ false → 0 < length - (done + sent)
    some f = let z = eqb-false (length - (done + sent)) 0 f in omega arith

    empty : eqb (length - (done + sent)) 0 ≡ true → mark_fits false maximum length (length - (done + sent)) true ≡ true
    empty f = f

    left : eqb (length - (done + sent)) 0 ≡ false → mark_fits false maximum length (length - (done + sent)) false ≡ true
    left f = rw (lt-ltb 0 (length - (done + sent)) (some f))

    pick : (b : Bool) → eqb (length - (done + sent)) 0 ≡ b → DescriptorSound M false maximum (cond b (Armed base length (done + sent) true) (Armed base length (done + sent) false))
    pick true f = record { placed = s.placed; done_within = omega (arith, m, s.done_within); mark = empty f }
    pick false f = record { placed = s.placed; done_within = omega (arith, m, s.done_within); mark = left f }

-- ---- the span of a descriptor stays

pub grown_span : (d : Descriptor) (n : ℕ) → spans_in (grown d n) ≡ spans_in d
grown_span Unallocated n = refl
grown_span (Armed base length done used) n = refl

pub spent_span : (d : Descriptor) → spans_in (spent d) ≡ spans_in d
spent_span Unallocated = refl
spent_span (Armed base length done used) = refl
