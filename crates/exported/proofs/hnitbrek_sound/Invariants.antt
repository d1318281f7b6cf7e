-- Each turn tests the set-up at its own address.
use Rattle.std.proofs.Common.{◌≡◌, ℕ, ◌≤◌}
use Rattle.state.specs.Update.{with_address}
use Rattle.exported.specs.Scene.{set_up, sound_of}
use Rattle.exported.proofs.hnitbrek_sound.Given as goal

abbrev pub invariant-loop-i : goal.invariant-loop-i
invariant-loop-i l =
    record {
      within : l.sound ≤ l.i;
      summed : l.sound ≡ sound_of (set_up l.maximum) l.i;
      same : (a : ℕ) → with_address l.core a ≡ with_address (set_up l.maximum) a;
    }
