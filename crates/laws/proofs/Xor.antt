-- Laws of exclusive or that the library lacks. Assumes nothing.
use mathlib.Core.Path.{◌≡◌, refl, sym, ap, ap₂, ◌∙◌}
use Prim.Native.Nat.{ℕ, zero, suc, ◌+◌, ◌*◌, ◌/◌, ◌%◌, ◌<◌}
use native.Mathlib.Nat.{le_of_suc-le-suc, not-suc-le-zero, mod-lt, zero-lt-suc, zero-mul}
use lib.Arith.{bin_ind}
use lib.Bits.{bit_xor, differ, xor_step, xor_shr, xor_mod, xor_comm, xor_self, xor_zero_r}

-- a number below 2 is 0 or 1
pub bit : (P : ℕ → Type 0) → P 0 → P 1 → (n : ℕ) → n < 2 → P n
bit P a b zero h = a
bit P a b (suc zero) h = b
bit P a b (suc (suc n)) h = absurd (not-suc-le-zero (le_of_suc-le-suc (le_of_suc-le-suc h)))

pub low_bit : (n : ℕ) → n % 2 < 2
low_bit n = mod-lt n (zero-lt-suc 1)

three_bits : (x : ℕ) → x < 2 → (y : ℕ) → y < 2 → (z : ℕ) → z < 2 → differ (bit_xor x y) z ≡ differ x (bit_xor y z)
three_bits =
    bit (λ x. (y : ℕ) → y < 2 → (z : ℕ) → z < 2 → differ (bit_xor x y) z ≡ differ x (bit_xor y z))
    (bit (λ y. (z : ℕ) → z < 2 → differ (bit_xor 0 y) z ≡ differ 0 (bit_xor y z))
    (bit (λ z. differ (bit_xor 0 0) z ≡ differ 0 (bit_xor 0 z)) refl refl)
    (bit (λ z. differ (bit_xor 0 1) z ≡ differ 0 (bit_xor 1 z)) refl refl))
    (bit (λ y. (z : ℕ) → z < 2 → differ (bit_xor 1 y) z ≡ differ 1 (bit_xor y z))
    (bit (λ z. differ (bit_xor 1 0) z ≡ differ 1 (bit_xor 0 z)) refl refl)
    (bit (λ z. differ (bit_xor 1 1) z ≡ differ 1 (bit_xor 1 z)) refl refl))

pub xor_assoc : (a b c : ℕ) → bit_xor (bit_xor a b) c ≡ bit_xor a (bit_xor b c)
xor_assoc =
    bin_ind (λ (a : ℕ). (b c : ℕ) → bit_xor (bit_xor a b) c ≡ bit_xor a (bit_xor b c)) (λ b c. refl)
    (λ a ih b c.
    xor_step (bit_xor a b) c
    ∙ ap₂ (λ (q d : ℕ). bit_xor q (c / 2) * 2 + differ d (c % 2)) (xor_shr a b 1) (xor_mod a b 1)
    ∙ ap₂ (λ (q d : ℕ). q * 2 + d) (ih (b / 2) (c / 2)) (three_bits (a % 2) (low_bit a) (b % 2) (low_bit b) (c % 2) (low_bit c))
    ∙ sym (xor_step a (bit_xor b c)
    ∙ ap₂ (λ (q d : ℕ). bit_xor (a / 2) q * 2 + differ (a % 2) d) (xor_shr b c 1) (xor_mod b c 1)))

-- (a b) (c d) is (a c) (b d)
pub xor_four : (a b c d : ℕ) → bit_xor (bit_xor a b) (bit_xor c d) ≡ bit_xor (bit_xor a c) (bit_xor b d)
xor_four a b c d =
    xor_assoc a b (bit_xor c d)
    ∙ ap (bit_xor a) (sym (xor_assoc b c d) ∙ ap (λ (x : ℕ). bit_xor x d) (xor_comm b c) ∙ xor_assoc c b d)
    ∙ sym (xor_assoc a c (bit_xor b d))

-- a number taken or not, by a bit
pub xor_pick : (g x y : ℕ) → x < 2 → y < 2 → bit_xor x y * g ≡ bit_xor (x * g) (y * g)
xor_pick g x y hx hy =
    bit (λ x. (y : ℕ) → y < 2 → bit_xor x y * g ≡ bit_xor (x * g) (y * g))
    (λ y h. sym (ap (λ (k : ℕ). bit_xor k (y * g)) (zero-mul g)))
    (bit (λ y. bit_xor 1 y * g ≡ bit_xor (1 * g) (y * g))
    (sym (ap (bit_xor (1 * g)) (zero-mul g) ∙ xor_zero_r (1 * g)))
    (zero-mul g ∙ sym (xor_self (1 * g))))
    x hx y hy
