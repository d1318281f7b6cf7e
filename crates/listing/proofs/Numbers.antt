-- Numbers of four bytes, stored one behind the other at the front of a buffer. Assumes nothing.
use Prim.Native.Nat.{ℕ, ◌+◌, ◌*◌, ◌≤◌}
use native.Mathlib.Nat.{add-zero}
use native.Mathlib.Omega.{arith}
use mathlib.Core.Path.{◌≡◌, refl, sym, ap, ◌∙◌}
use mathlib.Core.List.{List, [], ◌∷◌, ◌++◌, append_assoc}
use lib.ListN.{length, drop, length-append}
use lib.Seq.{sets, take-append_seam, drop-append-add, drop-drop}
use Rattle.laws.proofs.Parts.{store_behind}
use Rattle.bus.specs.Turn.{written}
use Rattle.listing.specs.Capture.{low_first}

-- what stores of these numbers make of a buffer, from a place on
abbrev pub stored : List ℕ → ℕ → List ℕ → List ℕ
stored out at [] = out
stored out at (n ∷ ns) = stored (sets out at (low_first 4 n)) (at + 4) ns

-- their bytes, behind a front
abbrev pub joined : List ℕ → List ℕ → List ℕ
joined front [] = front
joined front (n ∷ ns) = joined (front ++ low_first 4 n) ns

module _ (out : List ℕ) where
  behind : (front ns : List ℕ) (at : ℕ) → at ≡ length front → at + 4 * length ns ≤ length out
      → stored (front ++ drop at out) at ns ≡ joined front ns ++ drop (at + 4 * length ns) out
  behind front [] at e h = rw add-zero
  behind front (n ∷ ns) at e h =
      let w = low_first 4 n in
      let room : length front + 4 ≤ length out = omega arith in
      let one : sets (front ++ drop at out) at w ≡ (front ++ w) ++ drop (at + 4) out = rw e (store_behind front w out room) in
      let place : at + 4 ≡ length (front ++ w) = rw (length-append front w) (omega arith) in
      let rest : at + 4 + 4 * length ns ≡ at + 4 * length (n ∷ ns) = omega arith in
      ap (λ (l : List ℕ). stored l (at + 4) ns) one ∙ behind (front ++ w) ns (at + 4) place (omega arith)
      ∙ ap (λ (k : ℕ). joined (front ++ w) ns ++ drop k out) rest

  pub from_the_first : (ns : List ℕ) → 4 * length ns ≤ length out → stored out 0 ns ≡ joined [] ns ++ drop (4 * length ns) out
  from_the_first ns h = let e : 0 + 4 * length ns ≡ 4 * length ns = omega arith in rw e at (behind [] ns 0 refl (rw e h))

  -- bytes are laid behind a front
  pub laid_behind : (front bytes : List ℕ) (at : ℕ) → at ≡ length front
      → written at bytes (front ++ drop at out) ≡ (front ++ bytes) ++ drop (at + length bytes) out
  laid_behind front bytes at e =
      rw (e, take-append_seam front (drop (length front) out), drop-append-add front (drop (length front) out) (length bytes), drop-drop (length bytes) (length front) out)
      (sym (append_assoc front bytes (drop (length front + length bytes) out)))
