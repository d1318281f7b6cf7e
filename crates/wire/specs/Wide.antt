-- For the inner functions of `src/crc.rt` alone: no public promise cites it.
use Rattle.std.specs.Prelude.{ℕ}
use Rattle.wire.specs.Crc.{after, bits, g16}

-- the register that a wide one, of 64 bits, stands for: where 64 zero bits take it
abbrev pub settled : ℕ → ℕ
settled wide = after g16 wide (bits 64 0)
