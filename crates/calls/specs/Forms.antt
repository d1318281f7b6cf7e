-- The parts that a form of line is made of: names, numbers, and the words that stand for a value. Each takes one word of the line, in the
-- form's order; a line with another word there, or with a word too many or too few, asks for nothing.
use Rattle.std.specs.Prelude.{ℕ, suc, Bool, true, false, cond, Option, Some, None, List, [], ◌∷◌, map, eqb, leb, length}
use Rattle.std.specs.List.{slice_get}
use Rattle.std.specs.Option.{option_and_then}
use Rattle.std.specs.Result.{result_ok}
use Prim.Native.Char.{code}
use Prim.Native.String.{String}
use Prim.Native.String.{[] as none_left, ◌∷◌ as ◌then◌}
use Rattle.script.specs.Words.{nth, same, beside}
use Rattle.script.specs.Numbers.{number_of}
use Rattle.state.specs.Events.{record_events_in, system_events_in}
use Rattle.state.specs.declared.Condition.{Condition}
use Rattle.state.specs.declared.Condition.TheVariants as condition_is
use Rattle.state.specs.declared.Kind.{Kind}
use Rattle.state.specs.declared.Kind.TheVariants as kind_is
use Rattle.state.specs.declared.RecordEvents.{RecordEvents}
use Rattle.state.specs.declared.SystemEvents.{SystemEvents}
use Rattle.state.specs.declared.Speed.{Speed}
use Rattle.state.specs.declared.Speed.TheVariants as speed_is
use Rattle.state.specs.declared.Stage.{Stage}
use Rattle.state.specs.declared.Stage.TheVariants as stage_is
use Rattle.state.specs.declared.Transfer.{Transfer}
use Rattle.state.specs.declared.Transfer.TheVariants as transfer_is
use Rattle.calls.specs.declared.line.Line.{Line}

-- ---- names

-- a name's characters, by their numbers
abbrev pub text : String → List ℕ
text none_left = []
text (c then rest) = code c ∷ text rest

-- what stands beside the name that is the word
abbrev pub listed : {A : Type 0} → List ℕ → List (String × A) → Option A
listed word rows = beside word (map (λ row. (text row.0, row.1)) rows)

-- SPEED is `full` or `high`
abbrev pub speeds : List (String × Speed)
speeds = ("full", speed_is.Full) ∷ ("high", speed_is.High) ∷ []

-- a condition is `off`, `normal` or `halted`
abbrev pub conditions : List (String × Condition)
conditions = ("off", condition_is.Off) ∷ ("normal", condition_is.Normal) ∷ ("halted", condition_is.Halted) ∷ []

-- KIND is `control`, `in` or `out`
abbrev pub kinds : List (String × Kind)
kinds = ("control", kind_is.Control) ∷ ("in", kind_is.In) ∷ ("out", kind_is.Out) ∷ []

-- TYPE is `control`, `bulk` or `interrupt`
abbrev pub transfers : List (String × Transfer)
transfers = ("control", transfer_is.Control) ∷ ("bulk", transfer_is.Bulk) ∷ ("interrupt", transfer_is.Interrupt) ∷ []

-- a stage is `setup` or `out`
abbrev pub stages : List (String × Stage)
stages = ("setup", stage_is.Setup) ∷ ("out", stage_is.Out) ∷ []

unfoldable pub speed_of : List ℕ → Option Speed
speed_of word = listed word speeds

unfoldable pub condition_of : List ℕ → Option Condition
condition_of word = listed word conditions

unfoldable pub kind_of : List ℕ → Option Kind
kind_of word = listed word kinds

unfoldable pub transfer_of : List ℕ → Option Transfer
transfer_of word = listed word transfers

unfoldable pub stage_of : List ℕ → Option Stage
stage_of word = listed word stages

-- ---- numbers

-- a number that is at most this
unfoldable pub at_most : ℕ → List ℕ → Option ℕ
at_most most word = option_and_then (λ n. cond (leb n most) (Some n) None) (number_of word)

-- 0 or 1
abbrev pub bits : List Bool
bits = false ∷ true ∷ []

unfoldable pub bit_of : List ℕ → Option Bool
bit_of word = option_and_then (slice_get bits) (number_of word)

-- a sum of the named events' bits
unfoldable pub record_events_of : List ℕ → Option RecordEvents
record_events_of word = option_and_then (λ n. result_ok (record_events_in n)) (number_of word)

unfoldable pub system_events_of : List ℕ → Option SystemEvents
system_events_of word = option_and_then (λ n. result_ok (system_events_in n)) (number_of word)

-- ---- forms

-- what the words of a line ask for, from the word with this index on
abbrev pub Form : Type 0
Form = ℕ → List (List ℕ) → Option Line

-- what the line asks for where it ends here
abbrev pub ends : Line → Form
ends what k words = cond (eqb (length words) k) (Some what) None

-- the same, and a form where there are more words
abbrev pub ends_or : Line → Form → Form
ends_or what form k words = cond (eqb (length words) k) (Some what) (form k words)

-- a name, and a form behind it; where it is another word, the other form
abbrev pub name_or : String → Form → Form → Form
name_or name form other k words = cond (same (nth k words) (text name)) (form (suc k) words) (other k words)

-- BYTES, which is the last word of a line: whether that one is bytes is told
abbrev pub bytes : Bool → Form → Form
bytes given form k words = cond given (form (suc k) words) None

-- a form behind a word, by what the word says
abbrev pub by : {A : Type 0} → (List ℕ → Option A) → (A → Form) → Form
by said form k words = option_and_then (λ a. form a (suc k) words) (said (nth k words))

-- any number
abbrev pub number : (ℕ → Form) → Form
number = by number_of

-- a number that is at most this
abbrev pub up_to : ℕ → (ℕ → Form) → Form
up_to most = by (at_most most)

-- 0 or 1
abbrev pub bit : (Bool → Form) → Form
bit = by bit_of

-- SPEED
abbrev pub speed : (Speed → Form) → Form
speed = by speed_of

-- `off`, `normal` or `halted`
abbrev pub condition : (Condition → Form) → Form
condition = by condition_of

-- KIND
abbrev pub kind : (Kind → Form) → Form
kind = by kind_of

-- TYPE
abbrev pub transfer : (Transfer → Form) → Form
transfer = by transfer_of

-- `setup` or `out`
abbrev pub stage : (Stage → Form) → Form
stage = by stage_of
