-- Functions that go through exclusive or: two that agree on the powers of two agree on every number. Assumes nothing.
use mathlib.Core.Path.{◌≡◌, sym, ap, ap₂, ◌∙◌}
use Prim.Native.Nat.{ℕ, zero, suc, ◌*◌, ◌/◌, ◌%◌, ◌^◌, ◌<◌}
use native.Mathlib.Nat.{mod-lt, zero-mul, one-mul, add-zero}
use native.Mathlib.Numerals.{one-add}
use native.Mathlib.Omega.{arith}
use lib.Arith.{lt-one}
use lib.Bits.{bit_xor, xor_shr, xor_mod, xor_self, xor_shifted, xor_block}
use lib.Pow.{pow_pos, split, shr_lt}
use Rattle.laws.proofs.Xor.{bit, xor_four}

pub record Additive (f : ℕ → ℕ) : Type 0 where
  pub over : (a b : ℕ) → f (bit_xor a b) ≡ bit_xor (f a) (f b)

pub additive_shr : (k : ℕ) → Additive (λ x. x / 2 ^ k)
additive_shr k = record { over = λ a b. xor_shr a b k }

pub additive_mod : (k : ℕ) → Additive (λ x. x % 2 ^ k)
additive_mod k = record { over = λ a b. xor_mod a b k }

pub additive_shl : (k : ℕ) → Additive (λ x. x * 2 ^ k)
additive_shl k =
    record {
      over =
          λ a b.
          sym (add-zero (bit_xor a b * 2 ^ k)) ∙ sym (xor_block k a b 0 0 (pow_pos k) (pow_pos k))
          ∙ ap₂ bit_xor (add-zero (a * 2 ^ k)) (add-zero (b * 2 ^ k));
    }

pub additive_xor : {f g : ℕ → ℕ} → Additive f → Additive g → Additive (λ x. bit_xor (f x) (g x))
additive_xor {f} {g} p q = record { over = λ a b. ap₂ bit_xor (p.over a b) (q.over a b) ∙ xor_four (f a) (f b) (g a) (g b) }

pub additive_then : {f g : ℕ → ℕ} → Additive f → Additive g → Additive (λ x. g (f x))
additive_then {f} {g} p q = record { over = λ a b. ap g (p.over a b) ∙ q.over (f a) (f b) }

pub additive_zero : {f : ℕ → ℕ} → Additive f → f 0 ≡ 0
additive_zero {f} p = p.over 0 0 ∙ xor_self (f 0)

module _ {f g : ℕ → ℕ} (p : Additive f) (q : Additive g) where
  at_zero : f 0 ≡ g 0
  at_zero = additive_zero p ∙ sym (additive_zero q)

  pub agree : (n : ℕ) → ((k : ℕ) → k < n → f (2 ^ k) ≡ g (2 ^ k)) → (x : ℕ) → x < 2 ^ n → f x ≡ g x
  agree zero on x h = ap f (lt-one h) ∙ at_zero ∙ ap g (sym (lt-one h))
  agree (suc n) on x h =
      let hi = x / 2 ^ n in
      let lo = x % 2 ^ n in
      let parts : x ≡ bit_xor (hi * 2 ^ n) lo = sym (split x n) ∙ sym (xor_shifted hi n lo (mod-lt x (pow_pos n))) in
      let top : f (hi * 2 ^ n) ≡ g (hi * 2 ^ n) =
      bit (λ b. f (b * 2 ^ n) ≡ g (b * 2 ^ n)) (ap f (zero-mul (2 ^ n)) ∙ at_zero ∙ ap g (sym (zero-mul (2 ^ n))))
      (ap f (one-mul (2 ^ n)) ∙ on n (omega arith) ∙ ap g (sym (one-mul (2 ^ n)))) hi (shr_lt 1 n (rw one-add h)) in
      ap f parts ∙ p.over (hi * 2 ^ n) lo ∙ ap₂ bit_xor top (agree n (λ k l. on k (omega arith)) lo (mod-lt x (pow_pos n)))
      ∙ sym (q.over (hi * 2 ^ n) lo) ∙ ap g (sym parts)
