-- The generator is put in where the two bits differ, and times 0 it is nothing.
use Rattle.std.proofs.Common.{◌≡◌, ℕ, ◌*◌, ◌/◌, ◌%◌, sym, ap, ◌∙◌, arith}
use lib.Bits.{bit_xor, xor_lt, xor_zero_r}
use Rattle.laws.proofs.Xor.{low_bit}
use Rattle.wire.specs.Crc.{step, g16}
use Rattle.wire.proofs.crc.bit.Goals as goal

pub returns-then-r-b-eq1 : goal.returns-then-r-b-eq1
unfolding step
returns-then-r-b-eq1 c = sym (ap (λ (k : ℕ). bit_xor (c.args.r / 2) (k * g16)) c.if-r-b-eq1.true)

pub returns-else-r-b-eq1 : goal.returns-else-r-b-eq1
unfolding step
returns-else-r-b-eq1 c =
    let a = c.args in
    let z : bit_xor (a.r % 2) a.b ≡ 0 = omega (arith, xor_lt 1 (a.r % 2) a.b (low_bit a.r) c.requires) in
    sym (ap (λ (k : ℕ). bit_xor (a.r / 2) (k * g16)) z ∙ xor_zero_r (a.r / 2))
