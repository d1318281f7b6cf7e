-- Document 01, "Refusal numbers": what a call answers.
use Rattle.std.specs.Prelude.{ℕ, Result, Ok, Err}
use Rattle.refusals.specs.declared.Refusal.{Refusal}
use Rattle.state.specs.declared.Core.{Core}
use Rattle.state.specs.declared.Outcome.{Outcome}

abbrev pub accepted : Core → ℕ → Outcome ℕ
accepted core number = record { core = core; answer = Ok number }

abbrev pub refused : Core → Refusal → Outcome ℕ
refused core why = record { core = core; answer = Err why }

-- a refused call returns the state as it was
unfoldable pub settled : Result Unit Refusal → Core → Core → ℕ → Outcome ℕ
settled (Ok done) before after number = accepted after number
settled (Err why) before after number = refused before why
