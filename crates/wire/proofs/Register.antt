-- The register goes through exclusive or, so bits may be put into it first; and the bits of bytes, a few at a time. Assumes nothing.
use mathlib.Core.Path.{◌≡◌, refl, sym, ap, ap₂, ◌∙◌}
use mathlib.Core.List.{List, [], ◌∷◌, ◌++◌, append_assoc}
use Prim.Native.Nat.{ℕ, zero, suc, ◌+◌, ◌*◌, ◌/◌, ◌%◌, ◌^◌, ◌≤◌, ◌<◌}
use native.Mathlib.Nat.{zero-mul, zero-add, suc-add, pow-suc, div-div-eq-div-mul}
use native.Mathlib.Numerals.{add-one, one-add}
use native.Mathlib.Omega.{arith}
use lib.Arith.{lt-one}
use lib.Bits.{bit_xor, xor_shr, xor_mod, xor_self, xor_zero_r, xor_lt}
use lib.ListN.{length, get_or, take, drop, drop_of_length-le, take-append-drop}
use lib.Seq.{drop-cons}
use lib.Pow.{shr_lt, shr-shr, field, mod-mod-pow}
use Rattle.laws.proofs.Additive.{Additive}
use Rattle.laws.proofs.Xor.{xor_four, xor_pick, low_bit}
use Rattle.wire.specs.Crc.{step, after, bits, sent}
use Rattle.std.specs.Int.{byte_at, bytes_low_first}

-- ---- the bits of a number

-- low bits first, the others after them
pub bits_append : (m n v : ℕ) → bits (m + n) v ≡ bits m v ++ bits n (v / 2 ^ m)
unfolding bits
bits_append zero n v = ap₂ bits (zero-add n) (omega arith)
bits_append (suc m) n v =
    ap (λ (k : ℕ). bits k v) (suc-add m n)
    ∙ ap (λ (l : List ℕ). v % 2 ∷ l)
    (bits_append m n (v / 2) ∙ ap (λ (q : ℕ). bits m (v / 2) ++ bits n q) (shr-shr v 1 m ∙ ap (λ (k : ℕ). v / 2 ^ k) (one-add m)))

-- they are the bits of the number's low end
pub bits_mod : (n v : ℕ) → bits n (v % 2 ^ n) ≡ bits n v
unfolding bits
bits_mod zero v = refl
bits_mod (suc n) v =
    ap₂ (λ (b q : ℕ). b ∷ bits n q)
    (ap (λ (k : ℕ). v % 2 ^ k % 2) (sym (add-one n)) ∙ mod-mod-pow v n 1)
    (ap (λ (k : ℕ). v % 2 ^ k / 2) (sym (add-one n)) ∙ field v n 1)
    ∙ ap (λ (l : List ℕ). v % 2 ∷ l) (bits_mod n (v / 2))

-- ---- the bits of bytes

byte_is : (i n : ℕ) → byte_at i n ≡ n / 256 ^ i % 256
byte_is zero n = omega arith
byte_is (suc i) n = refl

-- the bytes of a number, its lowest first, have its bits
pub sent_bytes : (i k n : ℕ) → sent (bytes_low_first i k n) ≡ bits (8 * k) (n / 256 ^ i)
unfolding bits sent
sent_bytes i zero n = refl
sent_bytes i (suc k) n =
    let v = n / 256 ^ i in
    let e : 8 + 8 * k ≡ 8 * suc k = omega arith in
    let higher : n / 256 ^ suc i ≡ v / 256 = rw (pow-suc) (sym (div-div-eq-div-mul n (256 ^ i) 256)) in
    ap₂ (λ (b : ℕ) (q : List ℕ). bits 8 b ++ q) (byte_is i n) (sent_bytes (suc i) k n)
    ∙ ap₂ (λ (l m : List ℕ). l ++ m) (bits_mod 8 v) (ap (bits (8 * k)) higher) ∙ sym (bits_append 8 (8 * k) v) ∙ ap (λ (n : ℕ). bits n v) e

pub sent_append : (xs ys : List ℕ) → sent (xs ++ ys) ≡ sent xs ++ sent ys
unfolding sent
sent_append [] ys = refl
sent_append (x ∷ xs) ys = ap (λ (l : List ℕ). bits 8 x ++ l) (sent_append xs ys) ∙ sym (append_assoc (bits 8 x) (sent xs) (sent ys))

-- ---- the register

module _ (g : ℕ) where
  pub after_append : (r : ℕ) (xs ys : List ℕ) → after g r (xs ++ ys) ≡ after g (after g r xs) ys
  unfolding after
  after_append r [] ys = refl
  after_append r (x ∷ xs) ys = after_append (step g r x) xs ys

  step_xor : (r s b c : ℕ) → b < 2 → c < 2 → step g (bit_xor r s) (bit_xor b c) ≡ bit_xor (step g r b) (step g s c)
  unfolding step
  step_xor r s b c hb hc =
      ap₂ (λ (q d : ℕ). bit_xor q (bit_xor d (bit_xor b c) * g)) (xor_shr r s 1) (xor_mod r s 1)
      ∙ ap (λ (d : ℕ). bit_xor (bit_xor (r / 2) (s / 2)) (d * g)) (xor_four (r % 2) (s % 2) b c)
      ∙ ap (bit_xor (bit_xor (r / 2) (s / 2)))
      (xor_pick g (bit_xor (r % 2) b) (bit_xor (s % 2) c) (xor_lt 1 (r % 2) b (low_bit r) hb) (xor_lt 1 (s % 2) c (low_bit s) hc))
      ∙ xor_four (r / 2) (s / 2) (bit_xor (r % 2) b * g) (bit_xor (s % 2) c * g)

  -- where registers and numbers are combined, the results are
  pub after_xor : (n r s v w : ℕ) → after g (bit_xor r s) (bits n (bit_xor v w)) ≡ bit_xor (after g r (bits n v)) (after g s (bits n w))
  unfolding after bits
  after_xor zero r s v w = refl
  after_xor (suc n) r s v w =
      ap₂ (λ (d q : ℕ). after g (step g (bit_xor r s) d) (bits n q)) (xor_mod v w 1) (xor_shr v w 1)
      ∙ ap (λ (x : ℕ). after g x (bits n (bit_xor (v / 2) (w / 2)))) (step_xor r s (v % 2) (w % 2) (low_bit v) (low_bit w))
      ∙ after_xor n (step g r (v % 2)) (step g s (w % 2)) (v / 2) (w / 2)

  -- zero bits are an additive function of the register
  pub zeros_additive : (n : ℕ) → Additive (λ r. after g r (bits n 0))
  zeros_additive n = record { over = λ r s. after_xor n r s 0 0 }

  -- the register's own bits clear it
  after_self : (n v : ℕ) → v < 2 ^ n → after g v (bits n v) ≡ 0
  unfolding after bits step
  after_self zero v h = lt-one h
  after_self (suc n) v h =
      ap (λ (x : ℕ). after g x (bits n (v / 2)))
      (ap (λ (d : ℕ). bit_xor (v / 2) (d * g)) (xor_self (v % 2)) ∙ ap (bit_xor (v / 2)) (zero-mul g) ∙ xor_zero_r (v / 2))
      ∙ after_self n (v / 2) (shr_lt n 1 (rw add-one h))

  -- bits may be put into the register first
  pub bits_in : (n r v : ℕ) → v < 2 ^ n → after g (bit_xor r v) (bits n 0) ≡ after g r (bits n v)
  bits_in n r v h =
      ap (λ (z : ℕ). after g (bit_xor r v) (bits n z)) (sym (xor_self v)) ∙ after_xor n r v v v
      ∙ ap (bit_xor (after g r (bits n v))) (after_self n v h) ∙ xor_zero_r (after g r (bits n v))

  -- one turn of a loop over bytes, and its end
  pub byte_next : (r : ℕ) (p : List ℕ) (i : ℕ) → i < length p
      → after g r (sent (drop i p)) ≡ after g (after g r (bits 8 (get_or p i 0))) (sent (drop (i + 1) p))
  unfolding sent
  byte_next r p i h =
      ap (λ (l : List ℕ). after g r (sent l)) (drop-cons p i 0 h ∙ ap (λ (k : ℕ). get_or p i 0 ∷ drop k p) (sym (add-one i)))
      ∙ after_append r (bits 8 (get_or p i 0)) (sent (drop (i + 1) p))

  pub byte_end : (r : ℕ) (p : List ℕ) (i : ℕ) → length p ≤ i → after g r (sent (drop i p)) ≡ r
  unfolding sent after
  byte_end r p i h = ap (λ (l : List ℕ). after g r (sent l)) (drop_of_length-le p h)

  -- the bytes up to a place, and the bytes from there on
  pub after_parts : (r : ℕ) (p : List ℕ) (k : ℕ) → after g (after g r (sent (take k p))) (sent (drop k p)) ≡ after g r (sent p)
  after_parts r p k =
      sym (after_append r (sent (take k p)) (sent (drop k p)))
      ∙ ap (after g r) (sym (sent_append (take k p) (drop k p)) ∙ ap sent (take-append-drop k p))
