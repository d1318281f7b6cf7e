-- Each turn spells one byte more behind those before it.
use Rattle.std.proofs.Common.{arith, refl}
use Rattle.hexline.specs.Digits.{spelt_of}
use Rattle.hexline.proofs.Spelt.{spelt_more}
use Rattle.hexline.proofs.spelling.spell.Goals as goal

pub loop-i-init : goal.loop-i-init
unfolding spelt_of
loop-i-init c = refl

pub loop-i-preserved : goal.loop-i-preserved
loop-i-preserved c =
    let more = spelt_more c.args.bytes.now c.args.text.now c.loop-i.i (omega arith) (omega arith) in
    rw (c.loop-i.invariant, c.glyph.ensures, c.glyph-in-loop-i.ensures) more
