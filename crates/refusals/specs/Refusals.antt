-- Document 01, "Refusal numbers".
use Rattle.std.specs.Prelude.{ℕ, Bool, cond, List, [], ◌∷◌, Result, Ok, Err}
use Rattle.refusals.specs.declared.Refusal.{Refusal}
use Rattle.refusals.specs.declared.Refusal.TheVariants.{NotSound, MemoryNotM, ReplyTooShort, NoSuchRecord, RecordInUse, OutOfRange, ServedElsewhere, RecordOff, NoSuchBuffer, NotUsedYet, NothingArmed, Misplaced, SharesByte, NoSuchAddress, MemoryTooLarge, NoSuchFrame}

-- this paper's number of each refusal
abbrev pub number : Refusal → ℕ
-- the state is not sound
number NotSound = 1
-- memory lent is not M bytes
number MemoryNotM = 2
-- reply buffer below 1,027 bytes
number ReplyTooShort = 3
-- record index above 15
number NoSuchRecord = 4
-- configure: a buffer armed, or the core waits on the record; disarm, set or clear halt: the core waits on it
number RecordInUse = 5
-- configure: condition halted, or to normal with values outside the ranges; data packet writer: not a data PID, or payload above 1,024
number OutOfRange = 6
-- number and direction served by another live record
number ServedElsewhere = 7
-- arm, disarm, halt: record off
number RecordOff = 8
-- buffer number above 1
number NoSuchBuffer = 9
-- arm: buffer armed and not used
number NotUsedYet = 10
-- disarm: nothing armed
number NothingArmed = 11
-- base above 131,070, length above 16,383, base + length above M, or an OUT-side length that is 0 or no multiple of the maximum
number Misplaced = 12
-- the span shares a byte with another armed span, used or not
number SharesByte = 13
-- address above 127
number NoSuchAddress = 14
-- start: M above 131,072
number MemoryTooLarge = 15
-- frame number above 2,047, or a frame record that no run gives
number NoSuchFrame = 16

-- tested in the order of the numbers: the refusal is that of the first test that holds
abbrev pub judged : List (Bool × Refusal) → Result Unit Refusal
judged [] = Ok tt
judged (t ∷ ts) = cond t.0 (Err t.1) (judged ts)

-- the tests with this paper's numbers
abbrev pub numbered : List (Bool × Refusal) → List (Bool × ℕ)
numbered [] = []
numbered (t ∷ ts) = (t.0, number t.1) ∷ numbered ts

-- what is answered where no test holds
abbrev pub answered : {A : Type 0} → Result Unit Refusal → A → Result A Refusal
answered (Ok done) answer = Ok answer
answered (Err why) answer = Err why

-- this paper's number of an answer: the refusal's, 0 being done
abbrev pub refusal : {A : Type 0} → Result A Refusal → ℕ
refusal (Ok answer) = 0
refusal (Err why) = number why

-- and the other number answered, 0 where refused
abbrev pub returned : Result ℕ Refusal → ℕ
returned (Ok n) = n
returned (Err why) = 0
