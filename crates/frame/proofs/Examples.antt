-- Runs that the theorems speak of, computed. Assumes nothing.
use Prim.Native.Nat.{ℕ}
use mathlib.Core.Path.{◌≡◌, refl}
use mathlib.Core.Bool.{false}
use mathlib.Core.List.{List, [], ◌∷◌}
use lib.ListN.{replicate}
use Rattle.std.specs.Prelude.{Result}
use Rattle.refusals.specs.declared.Refusal.{Refusal}
use Rattle.std.specs.Prelude.{Ok, Err}
use Rattle.refusals.specs.declared.Refusal.TheVariants.{NoSuchFrame}
use Rattle.frame.specs.Frames.{outcome, seen_frame, no_run_gives, repeats_after, counted_of}
use Rattle.frame.specs.History.{run}

-- the answer to a number after a run, its newest number first
abbrev answer_after : List ℕ → ℕ → Result ℕ Refusal
answer_after numbers number = (counted_of (run numbers) number).answer

pub record Examples : Type 0 where
  pub first : answer_after [] 5 ≡ Ok 0
  pub second : answer_after (5 ∷ []) 5 ≡ Ok 1
  pub third : answer_after (5 ∷ 5 ∷ []) 5 ≡ Ok 2
  pub another : answer_after (5 ∷ []) 6 ≡ Ok 0
  pub back_again : answer_after (6 ∷ 5 ∷ []) 5 ≡ Ok 0
  pub first_0 : answer_after [] 0 ≡ Ok 0
  pub second_0 : answer_after (0 ∷ []) 0 ≡ Ok 1
  pub sixteenth : answer_after (replicate 15 5) 5 ≡ Ok 15
  pub seventeenth : answer_after (replicate 16 5) 5 ≡ Ok 15
  pub largest : answer_after [] 2047 ≡ Ok 0
  pub too_large : counted_of (seen_frame 5 3) 2048 ≡ outcome (seen_frame 5 3) (Err NoSuchFrame)
  pub refused_between : answer_after (2048 ∷ 5 ∷ []) 5 ≡ Ok 1
  pub count_of_16 : counted_of (seen_frame 5 16) 5 ≡ outcome (seen_frame 5 16) (Err NoSuchFrame)
  pub number_of_none : counted_of (record { seen = false; number = 5; repeats = 0 }) 5 ≡ outcome (record { seen = false; number = 5; repeats = 0 }) (Err NoSuchFrame)

pub examples : Examples
unfolding counted_of no_run_gives repeats_after
examples = record {
  first = refl;
  second = refl;
  third = refl;
  another = refl;
  back_again = refl;
  first_0 = refl;
  second_0 = refl;
  sixteenth = refl;
  seventeenth = refl;
  largest = refl;
  too_large = refl;
  refused_between = refl;
  count_of_16 = refl;
  number_of_none = refl;
}
