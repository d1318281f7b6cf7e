-- Demand 1, of any behaviour: "No packet and no firmware call may take the core outside its memory or its rules. Each entry judges its
-- own arguments. A refused call gives its number from the table and leaves the core's records, the buffer memory and the reply buffer as
-- they stood."
use Rattle.std.specs.Prelude.{ℕ, ◌+◌, ◌≡◌, Bool, false, ◌&&◌, cond, List, [], leb, ltb, length, get_or}
use Rattle.laws.specs.Lists.{first_of}
use Rattle.refusals.specs.declared.Refusal.{Refusal}
use Rattle.refusals.specs.Refusals.{numbered}
use Rattle.state.specs.declared.Speed.TheVariants.{Full}
use Rattle.state.specs.declared.Descriptor.{Descriptor}
use Rattle.state.specs.declared.Descriptor.TheVariants.{Unallocated, Armed}
use Rattle.state.specs.declared.Core.{Core}
use Rattle.state.specs.Update.{buffer_of, started, record_at}
use Rattle.state.specs.Sound.{Sound}
use Rattle.firmware.specs.Device.{start_tests, address_tests, sound_tests}
use Rattle.firmware.specs.Records.{index_tests, configure_tests, halt_tests}
use Rattle.firmware.specs.Buffers.{arm_tests, disarm_tests}
use Rattle.bus.specs.Calls.{lend_tests}
use Rattle.demands.specs.Behaviour.{Lent, Call, Start, Configure, Arm, Disarm, SetHalt, ClearHalt, SetAddress, BusReset, RecordEvents, SystemEvents, Packet, Timeout, side_of, is_anew, refusal, Behaviour, Given, Beginning, run_from}

-- each row of the table that a call has an argument for, in the order of the numbers
abbrev pub tests_of : Core → Lent → Call → List (Bool × Refusal)
tests_of core lent (Start M speed) = start_tests M
tests_of core lent (Configure i condition e) = configure_tests core i condition e
tests_of core lent (Arm i buffer base length) = arm_tests core i buffer base length
tests_of core lent (Disarm i buffer) = disarm_tests core i buffer
tests_of core lent (SetHalt i) = halt_tests core i
tests_of core lent (ClearHalt i) = halt_tests core i
tests_of core lent (SetAddress address) = address_tests core address
tests_of core lent (BusReset speed) = sound_tests core
tests_of core lent (RecordEvents i) = index_tests core i []
tests_of core lent SystemEvents = sound_tests core
tests_of core lent (Packet p) = lend_tests core (length lent.memory) (length lent.reply)
tests_of core lent Timeout = lend_tests core (length lent.memory) (length lent.reply)

-- the state that a refused call leaves: the one that it was given, and "a refused start returns the start state at full speed with M 0"
abbrev pub as_it_stood : Core → Call → Core
as_it_stood core call = cond (is_anew (side_of call)) (started 0 Full) core

-- a place of the memory is in the span of an armed buffer
abbrev pub in_span : ℕ → Descriptor → Bool
in_span place Unallocated = false
in_span place (Armed base length done used) = leb base place && ltb place (base + length)

-- or in none
abbrev pub Unarmed : Core → ℕ → Type 0
Unarmed core place = (i : ℕ) (second : Bool) → in_span place (buffer_of (record_at core i) second) ≡ false

pub record Demand1 (B : Behaviour) : Type 0 where
  -- its rules: every run from a start is in a sound state
  pub stays_sound : (s : Beginning) (gs : List Given) → Sound (run_from B s gs)
  -- the number of the first row of the table that holds, and 0 where none does
  pub judges : (core : Core) (lent : Lent) (call : Call) → refusal (B core lent call).answer ≡ first_of (numbered (tests_of core lent call)) 0
  pub refused_keeps : (core : Core) (lent : Lent) (call : Call) → (refusal (B core lent call).answer ≡ 0 → ⊥) → ((B core lent call).core ≡ as_it_stood core call) × ((B core lent call).lent ≡ lent)
  -- its memory: as many bytes as were lent
  pub same_lengths : (core : Core) (lent : Lent) (call : Call) → (length (B core lent call).lent.memory ≡ length lent.memory) × (length (B core lent call).lent.reply ≡ length lent.reply)
  -- and of them only bytes of armed buffers change
  pub rest_kept : (core : Core) (lent : Lent) (call : Call) (place : ℕ) → Unarmed core place → get_or (B core lent call).lent.memory place 0 ≡ get_or lent.memory place 0
