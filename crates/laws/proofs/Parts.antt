-- Runs of stores in a list. Assumes nothing.
use mathlib.Core.Path.{◌≡◌, ap₂, ◌∙◌}
use mathlib.Core.List.{List, ◌++◌}
use Prim.Native.Nat.{◌+◌, ◌≤◌}
use native.Mathlib.Omega.{arith}
use lib.ListN.{length, drop, length-append, length-drop}
use lib.Seq.{drop-drop, sets, sets-eq, take-append_seam, drop-append-add}

module _ {A : Type 0} where
  -- elements stored one after the other behind a front
  pub store_behind : (p vs out : List A) → length p + length vs ≤ length out
      → sets (p ++ drop (length p) out) (length p) vs ≡ (p ++ vs) ++ drop (length p + length vs) out
  store_behind p vs out h =
      let l = p ++ drop (length p) out in
      let room : length p + length vs ≤ length l = simp (length-append, length-drop) (omega arith) in
      sets-eq vs l (length p) room
      ∙ ap₂ (λ (x y : List A). (x ++ vs) ++ y) (take-append_seam p (drop (length p) out))
      (drop-append-add p (drop (length p) out) (length vs) ∙ drop-drop (length vs) (length p) out)
