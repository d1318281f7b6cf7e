-- The checks of USB 2.0, 8.3.5, bit by bit. A register is a number whose lowest bit is the one sent first, and so its highest power.
use Rattle.std.specs.Prelude.{List, [], ◌∷◌, ◌++◌, ℕ, zero, suc, ◌+◌, ◌-◌, ◌*◌, ◌/◌, ◌%◌, ◌^◌}
use Rattle.std.specs.Int.Bits.{bit_xor}

-- the generator x^w + .. with these powers below w
abbrev pub generator : ℕ → List ℕ → ℕ
generator w [] = 0
generator w (power ∷ powers) = 2 ^ (w - 1 - power) + generator w powers

-- one bit: the register moves down by one, and where the bit that falls out differs from the bit sent the generator is put in
unfoldable pub step : ℕ → ℕ → ℕ → ℕ
step g r b = bit_xor (r / 2) (bit_xor (r % 2) b * g)

-- the register after each bit of a list
unfoldable pub after : ℕ → ℕ → List ℕ → ℕ
after g r [] = r
after g r (b ∷ bs) = after g (step g r b) bs

-- the n low bits of v, low first
unfoldable pub bits : ℕ → ℕ → List ℕ
bits zero v = []
bits (suc n) v = v % 2 ∷ bits n (v / 2)

-- the bits of a list of bytes, as they are sent
unfoldable pub sent : List ℕ → List ℕ
sent [] = []
sent (x ∷ xs) = bits 8 x ++ sent xs

abbrev pub ones : ℕ → ℕ
ones w = 2 ^ w - 1

-- the check of w bits: the register all ones, the bits, and the result inverted
unfoldable pub check : ℕ → ℕ → List ℕ → ℕ
check w g bs = ones w - after g (ones w) bs

-- CRC5 is x^5+x^2+1
abbrev pub g5 : ℕ
g5 = generator 5 (2 ∷ 0 ∷ [])

-- CRC16 is x^16+x^15+x^2+1
abbrev pub g16 : ℕ
g16 = generator 16 (15 ∷ 2 ∷ 0 ∷ [])

-- the check of a token's eleven bits
abbrev pub crc5 : ℕ → ℕ
crc5 v = check 5 g5 (bits 11 v)

-- the check of a payload
abbrev pub crc16 : List ℕ → ℕ
crc16 payload = check 16 g16 (sent payload)
