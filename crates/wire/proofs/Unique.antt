-- Under one contract no function has two outcomes, the lent bytes and the payload's place with them. One law, and a line for each public function.
-- Assumes nothing.
use Prim.Native.Nat.{ℕ}
use mathlib.Core.Path.{◌≡◌, refl}
use mathlib.Core.List.{List}
use Rattle.laws.proofs.Once.{Once, once}
use Rattle.wire.specs.declared.pid.Kind.{Kind}
use Rattle.std.specs.Prelude.{Option, Some, None, Result}
use Rattle.refusals.specs.declared.Refusal.{Refusal}
use Rattle.wire.specs.declared.data.Packet.{Packet}
use Rattle.wire.specs.Crc.{crc16}
use Rattle.wire.specs.Pid.{kind_of, is_data, pid_of}
use Rattle.wire.specs.Pid.{number as pid_number}
use Rattle.wire.specs.Token.{token_of}
use Rattle.wire.specs.Data.{verdict_from, DataRead, DataWritten}

pub check_once : (p : List ℕ) → Once (crc16 p)
check_once p = once _

pub pid_number_once : (kind : Kind) → Once (pid_number kind)
pid_number_once kind = once _

pub named_once : (number : ℕ) → Once (kind_of number)
named_once number = once _

pub pid_read_once : (byte : ℕ) → Once (pid_of byte)
pid_read_once byte = once _

pub is_data_once : (kind : Kind) → Once (is_data kind)
is_data_once kind = once _

pub token_read_once : (packet : List ℕ) → Once (token_of packet)
token_read_once packet = once _

pub numbered_once : (number : ℕ) → Once (verdict_from number)
numbered_once number = once _

-- the verdict, the payload, and where it stands
pub data_read_once : (bytes : List ℕ) (place : ℕ × ℕ) (r r' : Packet) → DataRead bytes place r → DataRead bytes place r' → r ≡ r'
data_read_once bytes place r r' a b =
    let verdict = once _ r.verdict r'.verdict a.verdict_given b.verdict_given in
    let payload = once _ r.payload.now r'.payload.now a.payload_given b.payload_given in
    let at = once _ r.payload.ref_ptr r'.payload.ref_ptr a.itself b.itself in
    λ i. record { verdict = verdict i; payload = record { ref_ptr = at i; now = payload i } }

-- the answer, and the buffer
pub write_once : (pid : ℕ) (payload buffer : List ℕ) (r r' : Result ℕ Refusal) (left left' : List ℕ) → DataWritten pid payload buffer r left → DataWritten pid payload buffer r' left' → (r ≡ r') × (left ≡ left')
write_once pid payload buffer r r' left left' a b = (once _ r r' a.answer_given b.answer_given, once _ left left' a.buffer_left b.buffer_left)
