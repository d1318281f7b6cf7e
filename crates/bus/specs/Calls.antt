-- The bus calls: what each leaves, refused or not.
use Rattle.std.specs.Prelude.{ℕ, ◌≡◌, Bool, not, List, [], ◌∷◌, ltb, eqb, length, Result, Ok, Err}
use Rattle.refusals.specs.declared.Refusal.{Refusal}
use Rattle.refusals.specs.declared.Refusal.TheVariants.{NotSound, MemoryNotM, ReplyTooShort}
use Rattle.refusals.specs.Refusals.{judged}
use Rattle.wire.specs.Data.{payload_of}
use Rattle.state.specs.declared.Core.{Core}
use Rattle.state.specs.Sound.{is_sound}
use Rattle.state.specs.declared.Outcome.{Outcome}
use Rattle.bus.specs.declared.Answer.{Answer}
use Rattle.bus.specs.declared.Answer.TheVariants.{Silent}
use Rattle.bus.specs.declared.turn.Step.{Step}
use Rattle.bus.specs.Turn.{stored, said, laid}
use Rattle.bus.specs.Answers.{answer_of}
use Rattle.bus.specs.Arrival.{packet_step, timed_out}

-- 1: the state is not sound; 2: memory lent is not M bytes; 3: reply buffer below 1,027 bytes
abbrev pub lend_tests : Core → ℕ → ℕ → List (Bool × Refusal)
lend_tests core memory reply =
    (not (is_sound core), NotSound) ∷ (not (eqb memory core.memory_size), MemoryNotM) ∷ (ltb reply 1027, ReplyTooShort) ∷ []

abbrev pub lend_refusal : Core → List ℕ → List ℕ → Result Unit Refusal
lend_refusal core memory reply = judged (lend_tests core (length memory) (length reply))

-- what a call leaves where it is refused, or else
abbrev pub settled : {A : Type 0} → Result Unit Refusal → (Refusal → A) → A → A
settled (Ok done) refused carried = carried
settled (Err why) refused carried = refused why

abbrev pub refused : Core → Refusal → Outcome Answer
refused core why = record { core = core; answer = Err why }

-- ---- a packet arrives

-- the outcome of a call, and every byte that was lent for writing
pub record Left : Type 0 where
  pub outcome : Outcome Answer
  pub memory : List ℕ
  pub reply : List ℕ

-- the whole state and every lent byte keep their values
abbrev pub kept : Core → List ℕ → List ℕ → Refusal → Left
kept core memory reply why = record { outcome = refused core why; memory = memory; reply = reply }

-- the payload is stored in the memory, and what is said is laid in the reply buffer
abbrev pub carried : Step → List ℕ → List ℕ → List ℕ → Left
carried step payload memory reply =
    let after = stored step.store payload memory in
    let bytes = said step.says after in
    record {
      outcome = record { core = step.core; answer = Ok (answer_of step.says (length bytes)) };
      memory = after;
      reply = laid bytes reply;
    }

unfoldable pub packet_of : Core → List ℕ → List ℕ → List ℕ → Left
packet_of core memory reply packet =
    settled (lend_refusal core memory reply) (kept core memory reply)
    (carried (packet_step core packet) (payload_of packet) memory reply)

-- what a call promises: its outcome and the bytes are those
pub record Leaves (left : Left) (outcome : Outcome Answer) (memory reply : List ℕ) : Type 0 where
  pub outcome_given : outcome ≡ left.outcome
  pub memory_left : memory ≡ left.memory
  pub reply_left : reply ≡ left.reply

-- ---- the timeout

unfoldable pub timeout_of : Core → List ℕ → List ℕ → Outcome Answer
timeout_of core memory reply =
    settled (lend_refusal core memory reply) (refused core) (record { core = timed_out core; answer = Ok Silent })
