-- Document 01, "Frames (001)", and refusal 16.
use Rattle.std.specs.Prelude.{ℕ, suc, min, Bool, true, false, not, ◌||◌, cond, List, [], ◌∷◌, Result, Ok, Err, eqb, ltb}
use Rattle.laws.specs.Lists.{first_of}
use Rattle.frame.specs.declared.Frame.{Frame}
use Rattle.frame.specs.declared.Outcome.{Outcome}
use Rattle.refusals.specs.declared.Refusal.{Refusal}
use Rattle.refusals.specs.declared.Refusal.TheVariants.{NoSuchFrame}
use Rattle.refusals.specs.Refusals.{judged}

abbrev pub outcome : Frame → Result ℕ Refusal → Outcome
outcome frame answer = record { frame = frame; answer = answer }

-- none yet, which is not frame 0
abbrev pub empty : Frame
empty = record { seen = false; number = 0; repeats = 0 }

-- the last number, and how often it came again directly
abbrev pub seen_frame : ℕ → ℕ → Frame
seen_frame number repeats = record { seen = true; number = number; repeats = repeats }

-- a frame record that no run gives, by its fields: `NoRun` of History says it by the runs
unfoldable pub no_run_gives : Frame → Bool
no_run_gives frame =
    cond frame.seen
    (ltb 2047 frame.number || ltb 15 frame.repeats)
    (ltb 0 frame.number || ltb 0 frame.repeats)

-- 16: frame number above 2,047, or a frame record that no run gives
abbrev pub frame_tests : Frame → ℕ → List (Bool × Refusal)
frame_tests frame number = (ltb 2047 number || no_run_gives frame, NoSuchFrame) ∷ []

-- the refusal is that of the first test that holds
abbrev pub refusal_of : Frame → ℕ → Result Unit Refusal
refusal_of frame number = judged (frame_tests frame number)

-- first SOF: 0; same number again: one more, staying at 15; another number: 0
unfoldable pub repeats_after : Frame → ℕ → ℕ
repeats_after frame number =
    first_of ((not frame.seen, 0) ∷ (eqb frame.number number, min 15 (suc frame.repeats)) ∷ []) 0

-- the frame record is updated, and the repeat count comes back
abbrev pub accepted : Frame → ℕ → Outcome
accepted frame number = outcome (seen_frame number (repeats_after frame number)) (Ok (repeats_after frame number))

-- a refused call leaves the frame record as it was
abbrev pub settled : Result Unit Refusal → Frame → Outcome → Outcome
settled (Ok done) before after = after
settled (Err why) before after = outcome before (Err why)

unfoldable pub counted_of : Frame → ℕ → Outcome
counted_of frame number = settled (refusal_of frame number) frame (accepted frame number)
