-- Document 01, "Proved examples": one table, and what each line of it says.
use Rattle.std.specs.Prelude.{ℕ, ◌≡◌, Bool, true, false, not, Option, Some, None, List, [], ◌∷◌}
use Rattle.wire.specs.declared.pid.Kind.{Kind}
use Rattle.wire.specs.declared.pid.Kind.TheVariants as pid
use Rattle.wire.specs.Crc.{crc5, crc16}
use Rattle.wire.specs.Pid.{pid_of}
use Rattle.state.specs.declared.Speed.{Speed}
use Rattle.state.specs.declared.Speed.TheVariants.{High}
use Rattle.state.specs.declared.Kind.TheVariants as kind
use Rattle.state.specs.declared.Transfer.TheVariants as transfer
use Rattle.state.specs.Ranges.{out_side, misplaced, endpoint_fits}
use Rattle.state.specs.Spans.{span_from, apart}

pub data Example : Type 0 where
  -- a byte as a PID
  Reads : ℕ → Option Kind → Example
  -- eleven bits, and their check
  TokenCheck : ℕ → ℕ → Example
  -- a payload, and its check
  PayloadCheck : List ℕ → ℕ → Example
  -- base and length of two spans, and whether they are apart
  Spans : ℕ × ℕ → ℕ × ℕ → Bool → Example
  -- with M 131,072, base and length of a buffer on the IN side, and whether it is taken
  TakesIn : ℕ → ℕ → Bool → Example
  -- a maximum for bulk at a speed, and whether it passes
  Bulk : Speed → ℕ → Bool → Example

abbrev pub Holds : Example → Type 0
Holds (Reads byte pid) = pid_of byte ≡ pid
Holds (TokenCheck bits sum) = crc5 bits ≡ sum
Holds (PayloadCheck payload sum) = crc16 payload ≡ sum
Holds (Spans a b answer) = apart (span_from a.0 a.1) (span_from b.0 b.1) ≡ answer
Holds (TakesIn base length answer) = not (misplaced 131072 (out_side kind.In false) 64 base length) ≡ answer
Holds (Bulk speed maximum answer) =
    endpoint_fits speed (record { kind = kind.Out; transfer = transfer.Bulk; number = 1; maximum = maximum }) ≡ answer

abbrev pub AllHold : List Example → Type 0
AllHold [] = Unit {0}
AllHold (x ∷ xs) = Holds x × AllHold xs

abbrev pub table : List Example
table =
    Reads 0xE1 (Some pid.Out)
    ∷ Reads 0xF0 (Some pid.Reserved)
    ∷ Reads 0xE0 None
    ∷ TokenCheck 0 0x02
    ∷ TokenCheck 1 0x1D
    ∷ TokenCheck 129 0x0B
    ∷ PayloadCheck [] 0x0000
    ∷ PayloadCheck (0x00 ∷ []) 0xBF40
    ∷ PayloadCheck (0xFF ∷ []) 0xFF00
    ∷ Spans (0, 8) (8, 8) true
    ∷ Spans (0, 9) (8, 8) false
    ∷ TakesIn 131070 2 true
    ∷ TakesIn 131070 3 false
    ∷ Bulk High 512 true
    ∷ Bulk High 64 false
    ∷ []
