-- Document 01, "Packets": the PID byte.
use Rattle.std.specs.Prelude.{Bool, true, false, cond, List, [], ◌∷◌, ℕ, ◌+◌, ◌-◌, ◌*◌, ◌/◌, ◌%◌, eqb, get_or, Option, Some, None}
use Rattle.wire.specs.declared.pid.Kind.{Kind}
use Rattle.wire.specs.declared.pid.Kind.TheVariants.{Reserved, Out, Ack, Data0, Ping, Sof, Nyet, Data2, Split, In, Nak, Data1, Pre, Setup, Stall, Mdata}

-- this paper's number of each kind: OUT 1, IN 9, SOF 5, SETUP 13, DATA0 3, DATA1 11, DATA2 7, MDATA 15, ACK 2, NAK 10, STALL 14,
-- NYET 6, PRE/ERR 12, SPLIT 8, PING 4, reserved 0
abbrev pub number : Kind → ℕ
number Out = 1
number In = 9
number Sof = 5
number Setup = 13
number Data0 = 3
number Data1 = 11
number Data2 = 7
number Mdata = 15
number Ack = 2
number Nak = 10
number Stall = 14
number Nyet = 6
number Pre = 12
number Split = 8
number Ping = 4
number Reserved = 0

-- the kinds in the order of their numbers (`proofs/Pids.antt`: each stands at its own)
abbrev pub kinds : List Kind
kinds = Reserved ∷ Out ∷ Ack ∷ Data0 ∷ Ping ∷ Sof ∷ Nyet ∷ Data2 ∷ Split ∷ In ∷ Nak ∷ Data1 ∷ Pre ∷ Setup ∷ Stall ∷ Mdata ∷ []

-- the kind of that number; above 15 there is none, which is as good as reserved
unfoldable pub kind_of : ℕ → Kind
kind_of n = get_or kinds n Reserved

-- the data PIDs
abbrev pub is_data : Kind → Bool
is_data Data0 = true
is_data Data1 = true
is_data Data2 = true
is_data Mdata = true
is_data Out = false
is_data In = false
is_data Sof = false
is_data Setup = false
is_data Ack = false
is_data Nak = false
is_data Stall = false
is_data Nyet = false
is_data Pre = false
is_data Split = false
is_data Ping = false
is_data Reserved = false

-- PID byte: low four bits the PID, high four their complement
abbrev pub low : ℕ → ℕ
low byte = byte % 16

abbrev pub high : ℕ → ℕ
high byte = byte / 16

unfoldable pub pid_of : ℕ → Option Kind
pid_of byte = cond (eqb (high byte) (15 - low byte)) (Some (kind_of (low byte))) None

-- the byte of a PID
unfoldable pub pid_byte : ℕ → ℕ
pid_byte n = n + 16 * (15 - n)
