-- The frame call by its history, a list of numbers with the newest first: what the list alone says, and what the calls give.
use Rattle.std.specs.Prelude.{ℕ, suc, min, ◌<◌, ◌≡◌, cond, List, [], ◌∷◌, ◌⊎◌, eqb, leb}
use Rattle.frame.specs.declared.Frame.{Frame}
use Rattle.frame.specs.Frames.{empty, seen_frame, counted_of}

-- how many of the SOFs directly before, counted back from the newest, have this number
abbrev pub directly_before : List ℕ → ℕ → ℕ
directly_before [] number = 0
directly_before (newest ∷ older) number = cond (eqb newest number) (suc (directly_before older number)) 0

-- first SOF: 0; same number again: one more, staying at 15; another number: 0
abbrev pub repeats_of : List ℕ → ℕ → ℕ
repeats_of history number = min 15 (directly_before history number)

-- the newest number and its repeat count
abbrev pub last_of : List ℕ → Frame
last_of [] = empty
last_of (newest ∷ older) = seen_frame newest (repeats_of older newest)

-- a number above 2,047 is refused, and is no SOF of the history
abbrev pub taken : List ℕ → List ℕ
taken [] = []
taken (number ∷ older) = cond (leb number 2047) (number ∷ taken older) (taken older)

-- a run: calls with these numbers, each given the record that the one before it left
abbrev pub run : List ℕ → Frame
run [] = empty
run (number ∷ older) = (counted_of (run older) number).frame

-- a frame record that no run gives, whatever the numbers
abbrev pub NoRun : Frame → Type 0
NoRun frame = (numbers : List ℕ) → run numbers ≡ frame → ⊥

-- 16: frame number above 2,047, or a frame record that no run gives
abbrev pub Row16 : Frame → ℕ → Type 0
Row16 frame number = (2047 < number) ⊎ NoRun frame
