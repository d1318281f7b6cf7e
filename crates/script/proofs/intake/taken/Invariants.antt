-- What was taken, and the rest, are the line with the part behind it.
use Rattle.std.proofs.Common.{◌≡◌, List, ℕ, ◌++◌, length}
use Rattle.script.specs.Intake.{Stands}
use Rattle.script.proofs.intake.taken.Given as goal

abbrev pub invariant-loop-end : goal.invariant-loop-end
invariant-loop-end l =
    (line : List ℕ) → Stands line l.initial.now l.initial.kept l.initial.buffer → (taken : List ℕ) × (taken ++ l.rest ≡ line ++ l.part) × Stands taken l.now l.kept l.buffer

abbrev pub decreases-loop-end : goal.decreases-loop-end
decreases-loop-end l = length l.rest
