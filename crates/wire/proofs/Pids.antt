-- The sixteen numbers and the sixteen kinds. Assumes nothing.
use mathlib.Core.Path.{◌≡◌, refl, sym, ap, ◌∙◌}
use mathlib.Core.Bool.{Bool, true, false, ◌||◌, cond, false≢true}
use Prim.Native.Nat.{ℕ, ◌-◌, ◌≤◌, ◌<◌}
use native.Mathlib.Decide.{dec_lt}
use native.Mathlib.Omega.{arith}
use lib.Dec.{eqb}
use lib.ListN.{get_or-eq_default}
use borrow.Author.Tests.{ne_eqb}
use Rattle.laws.proofs.Table.{same_values}
use Rattle.wire.specs.Pid.{number, kinds, kind_of, is_data, low, high, pid_of}
use Rattle.wire.specs.declared.pid.Kind.{Kind}
use Rattle.std.specs.Prelude.{Some, None}

-- each kind stands at its own number
pub number_kind : (n : ℕ) → n < 16 → number (kind_of n) ≡ n
unfolding kind_of
number_kind = same_values (λ n. number (kind_of n)) (λ n. n) 16 refl

pub kind_number : (k : Kind) → kind_of (number k) ≡ k
unfolding kind_of
kind_number Kind.Reserved = refl
kind_number Kind.Out = refl
kind_number Kind.Ack = refl
kind_number Kind.Data0 = refl
kind_number Kind.Ping = refl
kind_number Kind.Sof = refl
kind_number Kind.Nyet = refl
kind_number Kind.Data2 = refl
kind_number Kind.Split = refl
kind_number Kind.In = refl
kind_number Kind.Nak = refl
kind_number Kind.Data1 = refl
kind_number Kind.Pre = refl
kind_number Kind.Setup = refl
kind_number Kind.Stall = refl
kind_number Kind.Mdata = refl

-- a number of none of the sixteen
none : (n : ℕ) → 16 ≤ n → kind_of n ≡ Kind.Reserved
unfolding kind_of
none n h = get_or-eq_default kinds Kind.Reserved h

-- the numbers of the data PIDs
pub data_number : (n : ℕ) → is_data (kind_of n) ≡ (eqb n 3 || eqb n 7 || eqb n 11 || eqb n 15)
unfolding kind_of
data_number n = go (dec_lt n 16)
  where
    numbers : ℕ → Bool
    numbers n = eqb n 3 || eqb n 7 || eqb n 11 || eqb n 15

    go : Dec (n < 16) → is_data (kind_of n) ≡ numbers n
    go (yes h) = same_values (λ n. is_data (kind_of n)) numbers 16 refl n h
    go (no h) =
        ap is_data (none n (omega arith))
        ∙ sym (simp (ne_eqb n 3 (λ e. h (omega arith)), ne_eqb n 7 (λ e. h (omega arith)), ne_eqb n 11 (λ e. h (omega arith)), ne_eqb n 15 (λ e. h (omega arith))))

-- a data PID has four bits
pub data_small : (n : ℕ) → is_data (kind_of n) ≡ true → n < 16
data_small n e = go (dec_lt n 16)
  where
    go : Dec (n < 16) → n < 16
    go (yes h) = h
    go (no h) = absurd (false≢true (sym (ap is_data (none n (omega arith))) ∙ e))

-- a byte that passes its check has the kind of its low four bits
pub checked_kind : (byte : ℕ) {kind : Kind} → pid_of byte ≡ Some kind → kind_of (low byte) ≡ kind
unfolding pid_of
checked_kind byte {kind} = go (eqb (high byte) (15 - low byte))
  where
    go : (checked : Bool) → cond checked (Some (kind_of (low byte))) None ≡ Some kind → kind_of (low byte) ≡ kind
    go true e = cc
    go false e = let z : ◌≡◌ {A = ℕ} 0 1 = cc in absurd (omega arith)
