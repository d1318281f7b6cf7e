-- A refusal has one number, and one text. Assumes nothing.
use mathlib.Core.List.{List}
use Prim.Native.Nat.{ℕ}
use Rattle.std.specs.Prelude.{Option, Some}
use Rattle.std.specs.Fmt.{decimal}
use Rattle.laws.proofs.Once.{Once, once}
use Rattle.refusals.specs.declared.Refusal.{Refusal}
use Rattle.refusals.specs.Refusals.{number}

pub number_once : (refusal : Refusal) → Once (number refusal)
number_once refusal = once _

pub fmt_once : (refusal : Refusal) → Once (Some (decimal (number refusal)))
fmt_once refusal = once _
