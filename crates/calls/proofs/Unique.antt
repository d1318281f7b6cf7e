-- Under one contract the reading of a line has no two results. Assumes nothing.
use Prim.Native.Nat.{ℕ}
use mathlib.Core.Bool.{Bool}
use mathlib.Core.List.{List}
use Rattle.laws.proofs.Once.{Once, once}
use Rattle.calls.specs.Script.{line_of}

pub read_once : (line : List ℕ) (given : Bool) → Once (line_of line given)
read_once line given = once _
