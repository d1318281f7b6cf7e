-- The wide register: 64 bits that stand for the register where 64 zero bits take them. Assumes nothing.
use mathlib.Core.Path.{◌≡◌, refl, sym, ap, ◌∙◌}
use mathlib.Core.List.{List, [], ◌++◌}
use Prim.Native.Nat.{ℕ, zero, suc, ◌+◌, ◌*◌, ◌/◌, ◌%◌, ◌^◌, ◌≤◌, ◌<◌}
use native.Mathlib.Omega.{arith}
use native.Mathlib.Numerals.{add-one}
use lib.Bits.{bit_xor}
use lib.ListN.{length, get_or, take, drop, drop_of_length-le}
use lib.Seq.{drop-cons, take-add}
use Rattle.std.specs.List.{concat}
use Rattle.std.specs.Simd.{first_chunks}
use Rattle.std.specs.Int.{w64, to_le_bytes, from_le_bytes}
use Rattle.std.proofs.lemmas.Nat.{le_bytes_8}
use Rattle.laws.proofs.Additive.{Additive, additive_shr, additive_mod, additive_shl, additive_xor, additive_then, agree}
use Rattle.laws.proofs.Table.{same_values}
use Rattle.wire.specs.Crc.{step, after, bits, sent, g16}
use Rattle.wire.specs.Wide.{settled}
use Rattle.wire.proofs.Register.{after_append, zeros_additive, bits_in, sent_append, sent_bytes}

-- the register moved on, as the code has it
abbrev left : ℕ → ℕ → ℕ
left k r = r * 2 ^ k % 2 ^ 64

abbrev spread : ℕ → ℕ
spread r = bit_xor (bit_xor (bit_xor r (left 46 r)) (left 56 r)) (left 61 r)

abbrev moved : ℕ → ℕ
moved r = bit_xor (bit_xor (spread r / 2 ^ 18) (spread r / 2 ^ 8)) (spread r / 2 ^ 3)

itself : Additive (λ r. r)
itself = record { over = λ a b. refl }

left_additive : (k : ℕ) → Additive (left k)
left_additive k = additive_then (additive_shl k) (additive_mod 64)

spread_additive : Additive spread
spread_additive = additive_xor (additive_xor (additive_xor itself (left_additive 46)) (left_additive 56)) (left_additive 61)

right_additive : (k : ℕ) → Additive (λ r. spread r / 2 ^ k)
right_additive k = additive_then spread_additive (additive_shr k)

moved_additive : Additive moved
moved_additive = additive_xor (additive_xor (right_additive 18) (right_additive 8)) (right_additive 3)

abbrev near : ℕ → ℕ
near r = settled (moved r)

abbrev far : ℕ → ℕ
far r = after g16 (settled r) (bits 64 0)

on_powers : (k : ℕ) → k < 64 → near (2 ^ k) ≡ far (2 ^ k)
unfolding step after bits
on_powers = same_values (λ k. near (2 ^ k)) (λ k. far (2 ^ k)) 64 refl

zeros : Additive settled
zeros = zeros_additive g16 64

pub onward : (r : ℕ) → r < 2 ^ 64 → near r ≡ far r
onward = agree (additive_then moved_additive zeros) (additive_then zeros zeros) 64 on_powers

word_bytes : (n : ℕ) → sent (to_le_bytes w64 n) ≡ bits 64 n
word_bytes n = let e : n / 256 ^ 0 ≡ n = omega arith in sent_bytes 0 8 n ∙ ap (bits 64) e

-- the bytes of a wide register, put into an empty one, take it where zero bits take the whole
pub bytes_in : (wide : ℕ) → wide < 2 ^ 64 → after g16 0 (sent (to_le_bytes w64 wide)) ≡ settled wide
bytes_in wide h = ap (after g16 0) (word_bytes wide) ∙ sym (bits_in g16 64 0 wide h)

-- and eight bytes, read as one
pub own_bits : (bytes : List ℕ) (w : ℕ) → length bytes ≡ 8 → ((k : ℕ) → get_or bytes k 0 < 256) → w ≡ from_le_bytes w64 bytes → bits 64 w ≡ sent bytes
own_bits bytes w eight byte read = sym (word_bytes w) ∙ ap sent (le_bytes_8 bytes w eight byte read)

-- eight bytes more, of those that are left
pub eight_next : (cs : List (List ℕ)) (i wide x w : ℕ) → i < length cs → w < 2 ^ 64
    → settled x ≡ after g16 (settled wide) (bits 64 0) → bits 64 w ≡ sent (get_or cs i [])
    → after g16 (settled wide) (sent (concat (drop i cs))) ≡ after g16 (settled (bit_xor x w)) (sent (concat (drop (i + 1) cs)))
eight_next cs i wide x w within fits on own =
    let s = settled wide in
    let e = get_or cs i [] in
    let more = drop (suc i) cs in
    let turn : settled (bit_xor x w) ≡ after g16 s (sent e) =
    zeros.over x w ∙ ap (λ (y : ℕ). bit_xor y (settled w)) on ∙ sym (zeros.over s w) ∙ bits_in g16 64 s w fits ∙ ap (after g16 s) own in
    ap (λ (l : List (List ℕ)). after g16 s (sent (concat l))) (drop-cons cs i [] within)
    ∙ ap (after g16 s) (sent_append e (concat more)) ∙ after_append g16 s (sent e) (sent (concat more))
    ∙ rw (turn, add-one) refl

pub eight_end : (cs : List (List ℕ)) (i r : ℕ) → length cs ≤ i → after g16 r (sent (concat (drop i cs))) ≡ r
unfolding sent after
eight_end cs i r h = ap (λ (l : List (List ℕ)). after g16 r (sent (concat l))) (drop_of_length-le cs h)

-- the whole eights of a stretch
pub concat_eights : (k : ℕ) (p : List ℕ) → concat (first_chunks 8 k p) ≡ take (k * 8) p
concat_eights zero p = refl
concat_eights (suc k) p =
    let e : 8 + k * 8 ≡ suc k * 8 = omega arith in
    ap (λ (l : List ℕ). take 8 p ++ l) (concat_eights k (drop 8 p)) ∙ sym (take-add 8 (k * 8) p) ∙ ap (λ (n : ℕ). take n p) e
