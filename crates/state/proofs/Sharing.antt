-- When two spans share a byte: by the tests that the code makes, by a byte that is of both, and in either order. Assumes nothing.
use Prim.Native.Nat.{ℕ, ◌<◌, ◌≤◌, min, max}
use native.Mathlib.Omega.{arith}
use native.Mathlib.Nat.{min_comm, max_comm}
use mathlib.Core.Path.{◌≡◌, refl}
use mathlib.Core.Bool.{Bool, true, false, ◌&&◌}
use lib.Dec.{ltb}
use borrow.Author.Tests.{lt-ltb, le-ltb, ltb-true, ltb-false}
use Rattle.state.specs.declared.spans.Span.{Span}
use Rattle.state.specs.Spans.{share_byte}

-- by numbers
module _ (a m b n : ℕ) where
  pub ends_before : m ≤ b → ltb (max a b) (min m n) ≡ false
  ends_before h = le-ltb (max a b) (min m n) (omega arith)

  pub begins_behind : n ≤ a → ltb (max a b) (min m n) ≡ false
  begins_behind h = le-ltb (max a b) (min m n) (omega arith)

  pub not_empty : b < m → a < n → ltb (max a b) (min m n) ≡ (ltb a m && ltb b n)
  not_empty h k = pick (ltb a m) (ltb b n) refl refl
    where
      pick : (p q : Bool) → ltb a m ≡ p → ltb b n ≡ q → ltb (max a b) (min m n) ≡ (p && q)
      pick false q e f = le-ltb (max a b) (min m n) (omega (arith, ltb-false a m e))
      pick true false e f = le-ltb (max a b) (min m n) (omega (arith, ltb-false b n f))
      pick true true e f = lt-ltb (max a b) (min m n) (omega (arith, ltb-true a m e, ltb-true b n f))

pub share_comm : (a b : Span) → share_byte a b ≡ share_byte b a
unfolding share_byte
share_comm a b = rw (max_comm a.base b.base, min_comm a.end b.end)

-- ---- a shared byte is a byte of both

pub record ByteOfBoth (a b : Span) (byte : ℕ) : Type 0 where
  pub in_first : (a.base ≤ byte) × (byte < a.end)
  pub in_second : (b.base ≤ byte) × (byte < b.end)

module _ (a b : Span) where
  pub shared_byte : share_byte a b ≡ true → ByteOfBoth a b (max a.base b.base)
  unfolding share_byte
  shared_byte e =
      let h : max a.base b.base < min a.end b.end = ltb-true (max a.base b.base) (min a.end b.end) e in
      record { in_first = (omega arith, omega arith); in_second = (omega arith, omega arith) }

  pub byte_shared : (byte : ℕ) → ByteOfBoth a b byte → share_byte a b ≡ true
  unfolding share_byte
  byte_shared byte w =
      lt-ltb (max a.base b.base) (min a.end b.end) (omega (arith, w.in_first, w.in_second))
