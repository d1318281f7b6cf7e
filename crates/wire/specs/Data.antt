-- Document 01, "Packets": data packets.
use Rattle.std.specs.Prelude.{◌≡◌, Bool, false, not, cond, Option, Some, None, Result, Ok, Err, List, [], ◌∷◌, ◌++◌, ℕ, ◌+◌, ◌-◌, ◌/◌, ◌%◌, eqb, ltb, length, get_or, take, drop}
use Rattle.laws.specs.Lists.{first_of}
use Rattle.wire.specs.Crc.{crc16}
use Rattle.wire.specs.Pid.{number, kind_of, is_data, low, pid_of, pid_byte}
use Rattle.wire.specs.Token.{word}
use Rattle.wire.specs.declared.pid.Kind.{Kind}
use Rattle.wire.specs.declared.data.Packet.{Packet}
use Rattle.refusals.specs.declared.Refusal.{Refusal}
use Rattle.refusals.specs.declared.Refusal.TheVariants.{ReplyTooShort, OutOfRange}
use Rattle.refusals.specs.Refusals.{judged, answered}

-- data: PID, payload 0 to 1,024, CRC16, low byte first
unfoldable pub packet : ℕ → List ℕ → List ℕ
packet pid payload = pid_byte pid ∷ (payload ++ (crc16 payload % 256 ∷ crc16 payload / 256 ∷ []))

-- ---- the reader

-- a checked data PID
abbrev pub is_data_pid : Option Kind → Bool
is_data_pid (Some kind) = is_data kind
is_data_pid None = false

-- between the PID byte and the CRC16
unfoldable pub stretch : List ℕ → List ℕ
stretch bytes = take (length bytes - 3) (drop 1 bytes)

-- the place behind the PID byte of a packet at this place: a block, and where in it
abbrev pub behind : ℕ × ℕ → ℕ × ℕ
behind place = (place.0, 1 + place.1)

-- the last two bytes, low byte first
unfoldable pub check_sent : List ℕ → ℕ
check_sent bytes = word (get_or bytes (length bytes - 2) 0) (get_or bytes (length bytes - 1) 0)

unfoldable pub right_check : List ℕ → Bool
right_check bytes = eqb (crc16 (stretch bytes)) (check_sent bytes)

-- what keeps a packet from being good, in the order in which R-3 tells it apart
abbrev pub faults : List ℕ → List (Bool × Option Kind)
faults bytes =
    (ltb (length bytes) 3, None)
    ∷ (ltb 1027 (length bytes), None)
    ∷ (not (is_data_pid (pid_of (get_or bytes 0 0))), None)
    ∷ (not (right_check bytes), None)
    ∷ []

-- a good data packet has a checked data PID, 3 to 1,027 bytes and the right check: its kind, and nothing of any other packet
unfoldable pub verdict_of : List ℕ → Option Kind
verdict_of bytes = first_of (faults bytes) (Some (kind_of (low (get_or bytes 0 0))))

-- the payload is the stretch; of any other packet an empty one
abbrev pub payload_by : Option Kind → List ℕ → List ℕ
payload_by (Some kind) bytes = stretch bytes
payload_by None bytes = []

unfoldable pub payload_of : List ℕ → List ℕ
payload_of bytes = payload_by (verdict_of bytes) bytes

-- never a copy: where the payload of a packet at this place stands
abbrev pub place_by : Option Kind → ℕ × ℕ → ℕ × ℕ
place_by (Some kind) place = behind place
place_by None place = place

-- what reading the bytes at a place promises: the verdict, the payload, and where it stands
pub record DataRead (bytes : List ℕ) (place : ℕ × ℕ) (read : Packet) : Type 0 where
  pub verdict_given : read.verdict ≡ verdict_of bytes
  pub payload_given : read.payload.now ≡ payload_of bytes
  pub itself : read.payload.ref_ptr ≡ place_by (verdict_of bytes) place

-- this paper's number of a verdict: the PID's, and 0, which is no data PID's, of "not good"
abbrev pub verdict_number : Option Kind → ℕ
verdict_number (Some kind) = number kind
verdict_number None = 0

-- the verdict of such a number
unfoldable pub verdict_from : ℕ → Option Kind
verdict_from n = cond (is_data (kind_of n)) (Some (kind_of n)) None

-- ---- the writer

-- 3: reply buffer below 1,027 bytes; 6: not a data PID, or payload above 1,024
abbrev pub write_refusals : ℕ → List ℕ → List ℕ → List (Bool × Refusal)
write_refusals pid payload buffer =
    (ltb (length buffer) 1027, ReplyTooShort) ∷ (not (is_data (kind_of pid)), OutOfRange) ∷ (ltb 1024 (length payload), OutOfRange) ∷ []

unfoldable pub write_refusal : ℕ → List ℕ → List ℕ → Result Unit Refusal
write_refusal pid payload buffer = judged (write_refusals pid payload buffer)

-- the refusal, or the packet's length
unfoldable pub write_of : ℕ → List ℕ → List ℕ → Result ℕ Refusal
write_of pid payload buffer = answered (write_refusal pid payload buffer) (length payload + 3)

-- the buffer afterwards: the packet from the first byte, later bytes as they stood; where refused, all of them
abbrev pub buffer_by : Result ℕ Refusal → ℕ → List ℕ → List ℕ → List ℕ
buffer_by (Ok length) pid payload buffer = packet pid payload ++ drop length buffer
buffer_by (Err why) pid payload buffer = buffer

unfoldable pub buffer_after : ℕ → List ℕ → List ℕ → List ℕ
buffer_after pid payload buffer = buffer_by (write_of pid payload buffer) pid payload buffer

-- what writing promises: the answer, and every byte of the buffer
pub record DataWritten (pid : ℕ) (payload buffer : List ℕ) (answer : Result ℕ Refusal) (left : List ℕ) : Type 0 where
  pub answer_given : answer ≡ write_of pid payload buffer
  pub buffer_left : left ≡ buffer_after pid payload buffer
