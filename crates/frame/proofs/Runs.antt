-- The test of refusal 16 is exact: a record that it passes is given by a run of equal numbers, one more than it counts. Assumes nothing.
use Prim.Native.Nat.{ℕ, zero, suc, min, ◌≤◌}
use native.Mathlib.Omega.{arith}
use mathlib.Core.Path.{◌≡◌, refl, sym, ap, ◌∙◌}
use mathlib.Core.Bool.{Bool, true, false, true≢false}
use mathlib.Core.List.{List, []}
use lib.Dec.{ltb, leb}
use lib.ListN.{replicate}
use borrow.Author.Tests.{eq-eqb, ltb-false, le-leb}
use Rattle.laws.specs.Lists.{all}
use Rattle.laws.proofs.Bools.{neither}
use Rattle.frame.specs.declared.Frame.{Frame}
use Rattle.frame.specs.Frames.{seen_frame, no_run_gives}
use Rattle.frame.specs.History.{directly_before, last_of, run, NoRun}
use Rattle.frame.proofs.History.{run_last, run_passes, all_taken}

equals_before : (k number : ℕ) → directly_before (replicate k number) number ≡ k
equals_before zero number = refl
equals_before (suc k) number = simp (eq-eqb number number refl, equals_before k number)

all_equal : (k number : ℕ) → number ≤ 2047 → all (λ n. leb n 2047) (replicate k number) ≡ true
all_equal zero number small = refl
all_equal (suc k) number small = simp (le-leb number 2047 small, all_equal k number small)

-- a run of numbers that are all taken, and that ends in the record
pub record GivenBy (frame : Frame) : Type 0 where
  pub numbers : List ℕ
  pub all_small : all (λ n. leb n 2047) numbers ≡ true
  pub ends : run numbers ≡ frame

known : (seen : Bool) (number repeats : ℕ) → no_run_gives (record { seen = seen; number = number; repeats = repeats }) ≡ false → GivenBy (record { seen = seen; number = number; repeats = repeats })
unfolding no_run_gives
known true number repeats passes =
    let (small, few) = neither (ltb 2047 number) (ltb 15 repeats) passes in
    let equal = all_equal (suc repeats) number (ltb-false 2047 number small) in
    let counted : min 15 (directly_before (replicate repeats number) number) ≡ repeats = rw (equals_before repeats number) (omega (arith, ltb-false)) in
    record {
      numbers = replicate (suc repeats) number;
      all_small = equal;
      ends = run_last (replicate (suc repeats) number) ∙ ap last_of (all_taken (replicate (suc repeats) number) equal) ∙ ap (seen_frame number) counted;
    }
known false number repeats passes =
    let (none, never) = neither (ltb 0 number) (ltb 0 repeats) passes in
    let no_number : number ≡ 0 = omega (arith, ltb-false) in
    let no_repeats : repeats ≡ 0 = omega (arith, ltb-false) in
    record { numbers = []; all_small = refl; ends = rw (no_number, no_repeats) }

pub given_by_run : (frame : Frame) → no_run_gives frame ≡ false → GivenBy frame
given_by_run frame passes = known frame.seen frame.number frame.repeats passes

pub no_run : (frame : Frame) → no_run_gives frame ≡ true → NoRun frame
no_run frame fails numbers ends = true≢false (sym fails ∙ ap no_run_gives (sym ends) ∙ run_passes numbers)

pub no_run_only : (frame : Frame) → NoRun frame → no_run_gives frame ≡ true
no_run_only frame none = pick (no_run_gives frame) refl
  where
    pick : (b : Bool) → no_run_gives frame ≡ b → b ≡ true
    pick true e = refl
    pick false e = let g = given_by_run frame e in absurd (none g.numbers g.ends)
