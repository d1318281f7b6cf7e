-- After so many turns the word has the run's first so many characters behind it.
use Rattle.std.proofs.Common.{List, ℕ, ◌++◌, take}
use Rattle.script.specs.Intake.{shortened}
use Rattle.script.specs.Holding.{Holds}
use Rattle.script.proofs.intake.spoken.Given as goal

abbrev pub invariant-loop-c : goal.invariant-loop-c
invariant-loop-c l = (front word : List ℕ) → Holds front (shortened word) l.length l.start l.initial.kept → Holds front (shortened (word ++ take l.c-index l.run)) l.end l.start l.kept
