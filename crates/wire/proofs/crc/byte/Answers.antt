-- One bit more, and none at the end.
use Rattle.std.proofs.Common.{◌≡◌, ℕ, suc, ◌+◌, ◌-◌, ◌/◌, sym, ap, ◌∙◌, arith}
use Rattle.wire.specs.Crc.{after, bits, g16}
use Rattle.wire.proofs.crc.byte.Goals as goal

pub loop-preserved : goal.loop-preserved
unfolding after bits
loop-preserved c =
    let l = c.loop in
    let e : 8 - l.counter ≡ suc (8 - (l.counter + 1)) = omega arith in
    ap (λ (r : ℕ). after g16 r (bits (8 - (l.counter + 1)) (l.v / 2))) c.bit-r.ensures
    ∙ sym (ap (λ (n : ℕ). after g16 l.r (bits n l.v)) e) ∙ l.invariant

pub returns : goal.returns
unfolding after bits
returns c =
    let l = c.loop in
    let e : 8 - l.counter ≡ 0 = omega arith in
    sym (ap (λ (n : ℕ). after g16 l.r (bits n l.v)) e) ∙ l.invariant
