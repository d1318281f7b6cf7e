-- The calls on the core as a whole: start, set address, bus reset, the read of the system events.
use Rattle.std.specs.Prelude.{ℕ, Bool, not, List, [], ◌∷◌, ltb, replicate}
use Rattle.refusals.specs.declared.Refusal.{Refusal}
use Rattle.refusals.specs.declared.Refusal.TheVariants.{NotSound, NoSuchAddress, MemoryTooLarge}
use Rattle.refusals.specs.Refusals.{judged}
use Rattle.state.specs.declared.Speed.{Speed}
use Rattle.state.specs.declared.Speed.TheVariants.{Full}
use Rattle.state.specs.declared.SystemEvent.TheVariants.{BusReset}
use Rattle.state.specs.declared.Wait.TheVariants.{Nothing}
use Rattle.state.specs.declared.Core.{Core}
use Rattle.state.specs.Events.{system_bits}
use Rattle.state.specs.Update.{off_record, no_system_events, started, with_address, with_speed, with_system_events, signalled, with_records, with_wait}
use Rattle.state.specs.Sound.{is_sound}
use Rattle.state.specs.declared.Outcome.{Outcome}
use Rattle.firmware.specs.Answers.{settled}

-- 15: M above 131,072; a refused start returns the start state at full speed with M 0
abbrev pub start_tests : ℕ → List (Bool × Refusal)
start_tests M = (ltb 131072 M, MemoryTooLarge) ∷ []

unfoldable pub start_of : ℕ → Speed → Outcome ℕ
start_of M speed = settled (judged (start_tests M)) (started 0 Full) (started M speed) 0

-- 1: the state is not sound; 14: address above 127
abbrev pub address_tests : Core → ℕ → List (Bool × Refusal)
address_tests core address = (not (is_sound core), NotSound) ∷ (ltb 127 address, NoSuchAddress) ∷ []

unfoldable pub set_address_of : Core → ℕ → Outcome ℕ
set_address_of core address = settled (judged (address_tests core address)) core (with_address core address) 0

-- the address stays (000)
abbrev pub address_after_reset : Core → ℕ
address_after_reset core = core.address

-- bus reset takes the new speed, switches all records off (fields zero), ends the wait without an event, and sets system event 28
abbrev pub after_reset : Core → Speed → Core
after_reset core speed =
    with_address
    (with_wait (with_records (with_system_events (with_speed core speed) (signalled core.events BusReset)) (replicate 16 off_record)) Nothing)
    (address_after_reset core)

abbrev pub sound_tests : Core → List (Bool × Refusal)
sound_tests core = (not (is_sound core), NotSound) ∷ []

unfoldable pub bus_reset_of : Core → Speed → Outcome ℕ
bus_reset_of core speed = settled (judged (sound_tests core)) core (after_reset core speed) 0

-- event reads return the bits and clear them
unfoldable pub system_events_of : Core → Outcome ℕ
system_events_of core =
    settled (judged (sound_tests core)) core (with_system_events core no_system_events) (system_bits core.events)
