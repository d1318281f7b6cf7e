-- The writer's refusals, exactly, and the numbers of its answer. Assumes nothing.
use mathlib.Core.Path.{◌≡◌}
use mathlib.Core.Bool.{cond}
use mathlib.Core.List.{List}
use Prim.Native.Nat.{ℕ}
use lib.Dec.{eqb}
use Rattle.std.specs.Prelude.{Result}
use Rattle.laws.proofs.First.{Given}
use Rattle.refusals.specs.declared.Refusal.{Refusal}
use Rattle.refusals.specs.Refusals.{numbered, answered, refusal, returned}
use Rattle.refusals.proofs.Judging.{number_only_when, number_whenever, answered_returns}
use Rattle.wire.specs.Data.{write_refusals, write_refusal}

-- a number is given where its test holds and no earlier one does, and 0 where none does
module _ (pid : ℕ) (payload buffer : List ℕ) (n : ℕ) where
  pub refused : refusal (write_refusal pid payload buffer) ≡ n → Given (numbered (write_refusals pid payload buffer)) 0 n
  unfolding write_refusal
  refused = number_only_when (write_refusals pid payload buffer) n

  pub refused_when : Given (numbered (write_refusals pid payload buffer)) 0 n → refusal (write_refusal pid payload buffer) ≡ n
  unfolding write_refusal
  refused_when = number_whenever (write_refusals pid payload buffer) n

-- an answer says the length or, where refused, 0
pub answer_length : (judged : Result Unit Refusal) (length : ℕ) → returned (answered judged length) ≡ cond (eqb (refusal judged) 0) length 0
answer_length judged length = answered_returns judged length
