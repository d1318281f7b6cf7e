-- What one frame call gives, by its two cases. Assumes nothing.
use Prim.Native.Nat.{ℕ, ◌≤◌, ◌<◌}
use mathlib.Core.Path.{◌≡◌}
use mathlib.Core.Bool.{false}
use borrow.Author.Tests.{lt-ltb, le-ltb}
use Rattle.frame.specs.declared.Frame.{Frame}
use Rattle.std.specs.Prelude.{Err}
use Rattle.refusals.specs.declared.Refusal.TheVariants.{NoSuchFrame}
use Rattle.frame.specs.Frames.{outcome, no_run_gives, accepted, counted_of}

module _ (frame : Frame) (number : ℕ) where
  pub taken_call : number ≤ 2047 → no_run_gives frame ≡ false → counted_of frame number ≡ accepted frame number
  unfolding counted_of
  taken_call small known = simp (le-ltb 2047 number small, known)

  pub refused_call : 2047 < number → counted_of frame number ≡ outcome frame (Err NoSuchFrame)
  unfolding counted_of
  refused_call large = simp (lt-ltb 2047 number large)
