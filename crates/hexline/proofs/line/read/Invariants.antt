-- After so many turns the state stands for what was taken before, and the first so many characters of the part.
use Rattle.std.proofs.Common.{List, ℕ, ◌++◌, take}
use Rattle.hexline.specs.Line.{Stands}
use Rattle.hexline.proofs.line.read.Given as goal

abbrev pub invariant-loop-c : goal.invariant-loop-c
invariant-loop-c l = (taken : List ℕ) → Stands taken l.initial.state l.initial.buffer → Stands (taken ++ take l.c-index l.part) l.state l.buffer
