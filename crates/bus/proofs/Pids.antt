-- The PID of a packet's first byte. Assumes nothing.
use Prim.Native.Nat.{ℕ, ◌<◌}
use native.Mathlib.Omega.{arith}
use mathlib.Core.Path.{◌≡◌, refl}
use mathlib.Core.List.{List, [], ◌∷◌}
use lib.ListN.{length, get_or}
use Rattle.wire.specs.declared.pid.Kind.{Kind}
use Rattle.wire.specs.declared.pid.Kind.TheVariants.{Reserved, Out, Ack, Data0, Ping, Sof, Nyet, Data2, Split, In, Nak, Data1, Pre, Setup, Stall, Mdata}
use Rattle.wire.specs.Pid.{number, pid_of}
use Rattle.bus.specs.Idle.{first_pid}

pub first : (l : List ℕ) → 0 < length l → pid_of (get_or l 0 0) ≡ first_pid l
first [] h = absurd (omega (arith, h))
first (b ∷ l) h = refl

-- a PID has four bits
pub four_bits : (k : Kind) → number k < 16
four_bits Reserved = omega arith
four_bits Out = omega arith
four_bits Ack = omega arith
four_bits Data0 = omega arith
four_bits Ping = omega arith
four_bits Sof = omega arith
four_bits Nyet = omega arith
four_bits Data2 = omega arith
four_bits Split = omega arith
four_bits In = omega arith
four_bits Nak = omega arith
four_bits Data1 = omega arith
four_bits Pre = omega arith
four_bits Setup = omega arith
four_bits Stall = omega arith
four_bits Mdata = omega arith
