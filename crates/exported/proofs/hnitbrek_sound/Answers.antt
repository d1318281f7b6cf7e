-- The address that a turn sets takes the place of the one before, so each test is of the set-up.
use Rattle.std.proofs.Common.{ℕ, ◌+◌, ◌%◌, ap, ap₂, ◌∙◌, add-one, arith}
use Rattle.state.specs.declared.Core.{Core}
use Rattle.state.specs.Update.{with_address}
use Rattle.exported.specs.Scene.{yes_of}
use Rattle.exported.proofs.hnitbrek_sound.Goals as goal

pub loop-i-preserved : goal.loop-i-preserved
loop-i-preserved c =
    let l = c.loop-i in
    let tested = c.with_address-core.ensures in
    record {
      within = omega arith;
      summed = rw (add-one l.i) (ap₂ (λ (m n : ℕ). m + n) l.invariant.summed (c.yes-sound.ensures.value ∙ ap yes_of (tested ∙ l.invariant.same (l.i % 128))));
      same = λ a. ap (λ (core : Core). with_address core a) tested ∙ l.invariant.same a;
    }
