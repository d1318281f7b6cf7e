-- What a bus call answers, by this paper's numbers.
use Rattle.std.specs.Prelude.{ℕ, ◌+◌, ◌≤◌, Bool, true, false, Result, Ok, Err}
use Rattle.refusals.specs.declared.Refusal.{Refusal}
use Rattle.bus.specs.declared.Answer.{Answer}
use Rattle.bus.specs.declared.Answer.TheVariants.{Silent, Reply, Sof}
use Rattle.bus.specs.declared.turn.Says.{Says}
use Rattle.bus.specs.declared.turn.Says.TheVariants.{Silence, Ack, Nak, Stall, Nyet, Data, Frame}
-- the refusal, 0 being done
pub use Rattle.refusals.specs.Refusals.{refusal}

-- how many bytes the reply has; 0 is silent
abbrev pub replied : Result Answer Refusal → ℕ
replied (Ok Silent) = 0
replied (Ok (Reply bytes)) = bytes
replied (Ok (Sof frame)) = 0
replied (Err why) = 0

-- answered as SOF, and its frame number
abbrev pub is_sof : Result Answer Refusal → Bool
is_sof (Ok Silent) = false
is_sof (Ok (Reply bytes)) = false
is_sof (Ok (Sof frame)) = true
is_sof (Err why) = false

abbrev pub frame_number : Result Answer Refusal → ℕ
frame_number (Ok Silent) = 0
frame_number (Ok (Reply bytes)) = 0
frame_number (Ok (Sof frame)) = frame
frame_number (Err why) = 0

-- the answer to what is said, in so many bytes
abbrev pub answer_of : Says → ℕ → Answer
answer_of Silence bytes = Silent
answer_of Ack bytes = Reply bytes
answer_of Nak bytes = Reply bytes
answer_of Stall bytes = Reply bytes
answer_of Nyet bytes = Reply bytes
answer_of (Data toggle from count) bytes = Reply bytes
answer_of (Frame frame) bytes = Sof frame

-- the bytes that are sent are of the memory, and no more than a packet has
abbrev pub SaysWithin : Says → ℕ → Type 0
SaysWithin Silence M = Unit {0}
SaysWithin Ack M = Unit {0}
SaysWithin Nak M = Unit {0}
SaysWithin Stall M = Unit {0}
SaysWithin Nyet M = Unit {0}
SaysWithin (Data toggle from count) M = (from + count ≤ M) × (count ≤ 1024)
SaysWithin (Frame frame) M = Unit {0}
