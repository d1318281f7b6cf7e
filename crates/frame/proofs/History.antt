-- The repeat count is what the list of numbers says, since the record of a run always holds what the list says. Assumes nothing.
use Prim.Native.Nat.{ℕ, suc, min, ◌≤◌, ◌<◌}
use native.Mathlib.Omega.{arith}
use mathlib.Core.Path.{◌≡◌, refl, ◌∙◌}
use mathlib.Core.Bool.{Bool, true, false, cond}
use mathlib.Core.List.{List, [], ◌∷◌}
use lib.Dec.{eqb, leb}
use Rattle.laws.specs.Lists.{all}
use Rattle.laws.proofs.Bools.{both}
use borrow.Author.Tests.{eqb-true, leb-true, leb-false, le-ltb}
use Rattle.std.specs.Prelude.{Ok, Err}
use Rattle.refusals.specs.declared.Refusal.TheVariants.{NoSuchFrame}
use Rattle.frame.specs.Frames.{outcome, no_run_gives, repeats_after, counted_of}
use Rattle.frame.specs.History.{directly_before, repeats_of, last_of, taken, run}
use Rattle.frame.proofs.Steps.{taken_call, refused_call}

-- the update counts as the list does
counts : (history : List ℕ) (number : ℕ) → repeats_after (last_of history) number ≡ repeats_of history number
unfolding repeats_after
counts [] number = refl
counts (newest ∷ older) number = pick (eqb newest number) refl
  where
    pick : (b : Bool) → eqb newest number ≡ b → cond b (min 15 (suc (repeats_of older newest))) 0 ≡ min 15 (cond b (suc (directly_before older number)) 0)
    pick true e = rw (eqb-true newest number e) (omega arith)
    pick false e = refl

-- the record passes the test of refusal 16
last_passes : (numbers : List ℕ) → no_run_gives (last_of (taken numbers)) ≡ false
unfolding no_run_gives
last_passes [] = refl
last_passes (number ∷ older) = pick (leb number 2047) refl (last_passes older)
  where
    pick : (b : Bool) → leb number 2047 ≡ b → no_run_gives (last_of (taken older)) ≡ false → no_run_gives (last_of (cond b (number ∷ taken older) (taken older))) ≡ false
    pick true e before = simp (le-ltb 2047 number (leb-true number 2047 e), le-ltb 15 (repeats_of (taken older) number) (omega arith))
    pick false e before = before

-- refused calls leave the record, and the others update it
pub run_last : (numbers : List ℕ) → run numbers ≡ last_of (taken numbers)
run_last [] = refl
run_last (number ∷ older) = pick (leb number 2047) refl (run_last older)
  where
    pick : (b : Bool) → leb number 2047 ≡ b → run older ≡ last_of (taken older) → (counted_of (run older) number).frame ≡ last_of (cond b (number ∷ taken older) (taken older))
    pick true e before = rw (before, taken_call (last_of (taken older)) number (leb-true number 2047 e) (last_passes older), counts (taken older) number)
    pick false e before = rw (refused_call (run older) number (leb-false number 2047 e)) before

pub run_passes : (numbers : List ℕ) → no_run_gives (run numbers) ≡ false
run_passes numbers = rw (run_last numbers) (last_passes numbers)

module _ (numbers : List ℕ) (number : ℕ) where
  pub by_history : number ≤ 2047 → counted_of (run numbers) number ≡ outcome (last_of (number ∷ taken numbers)) (Ok (repeats_of (taken numbers) number))
  by_history small = taken_call (run numbers) number small (run_passes numbers) ∙ rw (run_last numbers, counts (taken numbers) number)

  pub refused_by_history : 2047 < number → counted_of (run numbers) number ≡ outcome (run numbers) (Err NoSuchFrame)
  refused_by_history large = refused_call (run numbers) number large

-- where no call was refused, the history is the whole list
pub all_taken : (history : List ℕ) → all (λ n. leb n 2047) history ≡ true → taken history ≡ history
all_taken [] h = refl
all_taken (newest ∷ older) h = let (first, rest) = both (leb newest 2047) (all (λ n. leb n 2047) older) h in simp (first, all_taken older rest)

pub by_taken_history : (history : List ℕ) (number : ℕ) → all (λ n. leb n 2047) history ≡ true → number ≤ 2047 → counted_of (run history) number ≡ outcome (last_of (number ∷ history)) (Ok (repeats_of history number))
by_taken_history history number h small = rw (all_taken history h) at (by_history history number small)
