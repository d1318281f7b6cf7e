-- The first packet of a list, cut off no further than the list goes, and what is left behind it. Assumes nothing.
use Prim.Native.Nat.{ℕ, ◌+◌, ◌-◌, ◌*◌, ◌≤◌, min}
use native.Mathlib.Omega.{arith}
use native.Mathlib.Decide.{dec_le}
use mathlib.Core.Path.{◌≡◌, sym, ap, ap₂, ◌∙◌}
use mathlib.Core.List.{List}
use lib.ListN.{length, get_or, take, drop, length-take, length-drop}
use lib.Seq.{take_all, drop-drop}
use Rattle.exported.specs.Traffic.{first_in}

take_least : (n : ℕ) (list : List ℕ) → take (min n (length list)) list ≡ take n list
take_least n list = pick (dec_le n (length list))
  where
    pick : Dec (n ≤ length list) → take (min n (length list)) list ≡ take n list
    pick (yes h) = let least : min n (length list) ≡ n = omega arith in rw least
    pick (no h) = let least : min n (length list) ≡ length list = omega arith in rw least (take_all (length list) list (omega arith) ∙ sym (take_all n list (omega arith)))

module _ (list : List ℕ) (h : 2 ≤ length list) (said size : ℕ) (s : said ≡ get_or list 0 0 + get_or list 1 0 * 256) where
  cut : (rest packet later : List ℕ) → rest ≡ drop 2 list → size ≡ min said (length rest) → packet ≡ take size rest → later ≡ drop size rest
      → (packet ≡ first_in list) × (later ≡ drop (2 + length packet) list)
  unfolding first_in
  cut rest packet later r m p l =
      let long : length packet ≡ size = rw (p, length-take size rest) (omega (arith, m)) in
      (p ∙ ap (λ (n : ℕ). take n rest) m ∙ take_least said rest ∙ ap₂ take s r, l ∙ ap (drop size) r ∙ drop-drop size 2 list ∙ ap (λ (n : ℕ). drop (2 + n) list) (sym long))

  -- as code reads the bytes behind the first two
  pub cut_part : (packet later : List ℕ) → let rest = take (length list - 2) (drop 2 list) in size ≡ min said (length rest) → packet ≡ take size rest → later ≡ drop size rest
      → (packet ≡ first_in list) × (later ≡ drop (2 + length packet) list)
  cut_part packet later m p l = cut _ packet later (take_all (length list - 2) (drop 2 list) (rw (length-drop 2 list) (omega arith))) m p l
