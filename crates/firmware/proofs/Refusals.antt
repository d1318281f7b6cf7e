-- Each refusal of each call is given exactly when its row holds and no earlier one does, and a refused call answers the state that it was given
-- and no other number. One law, and a line for each call. Assumes nothing.
use Prim.Native.Nat.{ℕ}
use mathlib.Core.Path.{◌≡◌, refl, sym, ◌∙◌}
use mathlib.Core.Bool.{Bool}
use mathlib.Core.List.{List, []}
use Rattle.std.specs.Prelude.{Result, Ok, Err}
use Rattle.laws.proofs.First.{Given, Passed}
use Rattle.refusals.specs.declared.Refusal.{Refusal}
use Rattle.refusals.specs.Refusals.{judged, numbered, refusal, returned}
use Rattle.refusals.proofs.Judging.{judged_passed, number_only_when, number_whenever}
use Rattle.state.specs.declared.Speed.{Speed}
use Rattle.state.specs.declared.Speed.TheVariants.{Full}
use Rattle.state.specs.declared.Condition.{Condition}
use Rattle.state.specs.declared.Endpoint.{Endpoint}
use Rattle.state.specs.declared.Core.{Core}
use Rattle.state.specs.declared.Outcome.{Outcome}
use Rattle.state.specs.Update.{started}
use Rattle.firmware.specs.Answers.{accepted, refused, settled}
use Rattle.firmware.specs.Device.{start_tests, start_of, address_tests, set_address_of, sound_tests, bus_reset_of, system_events_of}
use Rattle.firmware.specs.Records.{index_tests, configure_tests, configure_of, halt_tests, set_halt_of, clear_halt_of, record_events_of}
use Rattle.firmware.specs.Buffers.{arm_tests, arm_of, disarm_tests, disarm_of}

-- what an outcome of a call on a state says of its tests
pub record Judges (tests : List (Bool × Refusal)) (before : Core) (o : Outcome ℕ) : Type 0 where
  pub only_when : (n : ℕ) → refusal o.answer ≡ n → Given (numbered tests) 0 n
  pub whenever : (n : ℕ) → Given (numbered tests) 0 n → refusal o.answer ≡ n
  pub kept : (refusal o.answer ≡ 0 → ⊥) → (o.core ≡ before) × (returned o.answer ≡ 0)

-- what holds of the outcome where no test holds, and of that of each refusal, holds of the outcome
pub settled_by : (P : Outcome ℕ → Type 0) (tests : List (Bool × Refusal)) (before after : Core) (number : ℕ) → (Passed tests → P (accepted after number)) → ((why : Refusal) → P (refused before why)) → P (settled (judged tests) before after number)
unfolding settled
settled_by P tests before after number f g = pick (judged tests) (judged_passed tests)
  where
    pick : (r : Result Unit Refusal) → (r ≡ Ok tt → Passed tests) → P (settled r before after number)
    pick (Ok done) p = f (p refl)
    pick (Err why) p = g why

answered : (r : Result Unit Refusal) (before after : Core) (number : ℕ) → refusal (settled r before after number).answer ≡ refusal r
unfolding settled
answered (Ok done) before after number = refl
answered (Err why) before after number = refl

unchanged : (r : Result Unit Refusal) (before after : Core) (number : ℕ) → (refusal r ≡ 0 → ⊥) → ((settled r before after number).core ≡ before) × (returned (settled r before after number).answer ≡ 0)
unfolding settled
unchanged (Ok done) before after number h = absurd (h refl)
unchanged (Err why) before after number h = (refl, refl)

judges : (tests : List (Bool × Refusal)) (before after : Core) (number : ℕ) → Judges tests before (settled (judged tests) before after number)
judges tests before after number =
    record {
      only_when = λ n e. number_only_when tests n (sym (answered (judged tests) before after number) ∙ e);
      whenever = λ n g. answered (judged tests) before after number ∙ number_whenever tests n g;
      kept = λ h. unchanged (judged tests) before after number (λ e. h (answered (judged tests) before after number ∙ e));
    }

pub start_judges : (M : ℕ) (speed : Speed) → Judges (start_tests M) (started 0 Full) (start_of M speed)
unfolding start_of
start_judges M speed = judges (start_tests M) (started 0 Full) _ 0

module _ (core : Core) where
  pub set_address_judges : (address : ℕ) → Judges (address_tests core address) core (set_address_of core address)
  unfolding set_address_of
  set_address_judges address = judges (address_tests core address) core _ 0

  pub bus_reset_judges : (speed : Speed) → Judges (sound_tests core) core (bus_reset_of core speed)
  unfolding bus_reset_of
  bus_reset_judges speed = judges (sound_tests core) core _ 0

  pub system_events_judges : Judges (sound_tests core) core (system_events_of core)
  unfolding system_events_of
  system_events_judges = judges (sound_tests core) core _ _

  module _ (i : ℕ) where
    pub configure_judges : (condition : Condition) (e : Endpoint) → Judges (configure_tests core i condition e) core (configure_of core i condition e)
    unfolding configure_of
    configure_judges condition e = judges (configure_tests core i condition e) core _ 0

    pub set_halt_judges : Judges (halt_tests core i) core (set_halt_of core i)
    unfolding set_halt_of
    set_halt_judges = judges (halt_tests core i) core _ 0

    pub clear_halt_judges : Judges (halt_tests core i) core (clear_halt_of core i)
    unfolding clear_halt_of
    clear_halt_judges = judges (halt_tests core i) core _ 0

    pub record_events_judges : Judges (index_tests core i []) core (record_events_of core i)
    unfolding record_events_of
    record_events_judges = judges (index_tests core i []) core _ _

    pub arm_judges : (buffer base length : ℕ) → Judges (arm_tests core i buffer base length) core (arm_of core i buffer base length)
    unfolding arm_of
    arm_judges buffer base length = judges (arm_tests core i buffer base length) core _ 0

    pub disarm_judges : (buffer : ℕ) → Judges (disarm_tests core i buffer) core (disarm_of core i buffer)
    unfolding disarm_of
    disarm_judges buffer = judges (disarm_tests core i buffer) core _ _
