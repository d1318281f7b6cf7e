-- A packet laid at the front of a buffer: the PID byte, the payload, which was lent the place behind it, and two bytes more.
-- Assumes nothing.
use mathlib.Core.Path.{◌≡◌, ap, ◌∙◌}
use mathlib.Core.List.{List, [], ◌∷◌, ◌++◌}
use Prim.Native.Nat.{ℕ, suc, ◌+◌, ◌-◌, ◌≤◌}
use native.Mathlib.Numerals.{add-one}
use native.Mathlib.Omega.{arith}
use lib.ListN.{length, take, drop, set}
use Rattle.laws.proofs.Parts.{store_behind}

-- the PID byte, and behind it what the place of a payload of n bytes came back as
abbrev begun : ℕ → ℕ → List ℕ → List ℕ → List ℕ
begun h n back out = take 1 (set out 0 h) ++ (back ++ drop (n + 1 - 1) (drop 1 (set out 0 h)))

pub laid : (h : ℕ) (payload out : List ℕ) (lo hi : ℕ) → length payload + 3 ≤ length out
    → set (set (begun h (length payload) payload out) (length payload + 1) lo) (length payload + 1 + 1) hi
    ≡ (h ∷ (payload ++ (lo ∷ hi ∷ []))) ++ drop (length payload + 3) out
laid h payload [] lo hi fits = absurd (omega arith)
laid h payload (o ∷ out) lo hi fits =
    let n = length payload in
    let k : suc n + 2 ≡ n + 3 = omega arith in
    let room : suc n + 2 ≤ suc (length out) = omega arith in
    let e : n + 1 - 1 ≡ n = omega arith in
    rw (e, add-one n, add-one (suc n))
    (store_behind (h ∷ payload) (lo ∷ hi ∷ []) (o ∷ out) room
    ∙ ap (λ (m : ℕ). (h ∷ (payload ++ (lo ∷ hi ∷ []))) ++ drop m (o ∷ out)) k)
