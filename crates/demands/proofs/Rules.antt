-- Demand 1 holds of document 01's core: what firmware and bus prove of each call, taken over every run. Assumes nothing.
use Prim.Native.Nat.{ℕ, ◌≤◌}
use native.Mathlib.Omega.{arith}
use mathlib.Core.Path.{◌≡◌, refl, sym, ◌∙◌, ap, subst}
use mathlib.Core.Bool.{Bool}
use mathlib.Core.List.{List, [], ◌∷◌}
use lib.ListN.{length, length-append, length-drop}
use Rattle.std.specs.Prelude.{Option, Some, None, Result, Ok, Err}
use Rattle.laws.specs.Lists.{first_of}
use Rattle.laws.proofs.First.{given}
use Rattle.refusals.specs.declared.Refusal.{Refusal}
use Rattle.refusals.specs.Refusals as number
use Rattle.refusals.specs.Refusals.{numbered}
use Rattle.wire.specs.Data.{payload_of}
use Rattle.state.specs.declared.Core.{Core}
use Rattle.state.specs.declared.Outcome as state
use Rattle.state.specs.Sound.{Sound}
use Rattle.firmware.proofs.KeepsSound.{start_sound, set_address_sound, bus_reset_sound, system_events_sound, set_halt_sound, clear_halt_sound, record_events_sound, configure_sound, arm_sound, disarm_sound}
use Rattle.firmware.proofs.Refusals as firmware_refusals
use Rattle.firmware.proofs.Refusals.{start_judges, set_address_judges, bus_reset_judges, system_events_judges, configure_judges, set_halt_judges, clear_halt_judges, record_events_judges, arm_judges, disarm_judges}
use Rattle.bus.specs.declared.Answer as bus
use Rattle.bus.specs.declared.turn.Says.{Says}
use Rattle.bus.specs.declared.turn.Says.TheVariants.{Silence, Ack, Nak, Stall, Nyet, Data, Frame}
use Rattle.bus.specs.Turn.{data_pid, stored, said, laid}
use Rattle.bus.specs.Answers.{SaysWithin}
use Rattle.bus.specs.Arrival.{StoreWithin, packet_step}
use Rattle.bus.specs.Calls.{Left, lend_tests, lend_refusal, packet_of, timeout_of}
use Rattle.bus.proofs.Laying.{sent_length}
use Rattle.bus.proofs.Within.{says_within, packet_store_within}
use Rattle.bus.proofs.Lent as lending
use Rattle.bus.proofs.Lent.{packet_accepted, packet_refused, timeout_accepted, timeout_refused}
use Rattle.bus.proofs.Stretches.{same_size}
use Rattle.bus.proofs.Refusals as bus_refusals
use Rattle.bus.proofs.Refusals.{packet_judges, timeout_judges, packet_sound, timeout_call_sound}
use Rattle.demands.specs.Behaviour.{Lent, Call, Start, Configure, Arm, Disarm, SetHalt, ClearHalt, SetAddress, BusReset, RecordEvents, SystemEvents, Packet, Timeout, number_in, refusal, Outcome, by_number, the_core, Given, run, Beginning, run_from}
use Rattle.demands.specs.Demand1.{tests_of, as_it_stood, Demand1}
use Rattle.demands.proofs.BusCalls.{call_accepted, call_refused}
use Rattle.demands.proofs.Untouched.{rest_kept}

-- ---- its rules

pub call_sound : (core : Core) (lent : Lent) (call : Call) → Sound core → Sound (the_core core lent call).core
call_sound core lent (Start M speed) w = start_sound M speed
call_sound core lent (Configure i condition e) w = configure_sound core i condition e w
call_sound core lent (Arm i buffer base length) w = arm_sound core i buffer base length w
call_sound core lent (Disarm i buffer) w = disarm_sound core i buffer w
call_sound core lent (SetHalt i) w = set_halt_sound core w i
call_sound core lent (ClearHalt i) w = clear_halt_sound core w i
call_sound core lent (SetAddress address) w = set_address_sound core address w
call_sound core lent (BusReset speed) w = bus_reset_sound core speed w
call_sound core lent (RecordEvents i) w = record_events_sound core i w
call_sound core lent SystemEvents w = system_events_sound core w
call_sound core lent (Packet p) w = packet_sound core lent.memory lent.reply w p
call_sound core lent Timeout w = timeout_call_sound core lent.memory lent.reply w

pub run_on_sound : (core : Core) → Sound core → (gs : List Given) → Sound (run the_core core gs)
run_on_sound core w [] = w
run_on_sound core w (g ∷ gs) =
    run_on_sound (the_core core g.lent g.call).core (call_sound core g.lent g.call w) gs

pub run_sound : (s : Beginning) (gs : List Given) → Sound (run_from the_core s gs)
run_sound s gs =
    run_on_sound (the_core s.before s.lent (Start s.memory_size s.speed)).core (start_sound s.memory_size s.speed) gs

-- ---- each entry judges its own arguments

-- a refusal is answered by its number
pub by_number_same : {A : Type 0} (a : Result A Refusal) → number_in (by_number a) ≡ number.refusal a
by_number_same (Ok answer) = refl
by_number_same (Err why) = refl

first_of_lem : (tests : List (Bool × Refusal)) (before : Core) (o : state.Outcome ℕ) → firmware_refusals.Judges tests before o → number_in (by_number o.answer) ≡ first_of (numbered tests) 0
first_of_lem tests before o j =
    by_number_same o.answer ∙ j.whenever (first_of (numbered tests) 0) (given (numbered tests) 0 (first_of (numbered tests) 0) refl)

module _ (core : Core) (memory reply : List ℕ) where
  abbrev first_number : ℕ
  first_number = first_of (numbered (lend_tests core (length memory) (length reply))) 0

  first_lent : (a : Result bus.Answer Refusal) → bus_refusals.Judges core memory reply a → number_in (by_number a) ≡ first_number
  first_lent a j =
      by_number_same a ∙ j.whenever first_number (given (numbered (lend_tests core (length memory) (length reply))) 0 first_number refl)

judges : (core : Core) (lent : Lent) (call : Call) → refusal (the_core core lent call).answer ≡ first_of (numbered (tests_of core lent call)) 0
judges core lent (Start M speed) = first_of_lem _ _ _ (start_judges M speed)
judges core lent (Configure i condition e) = first_of_lem _ _ _ (configure_judges core i condition e)
judges core lent (Arm i buffer base length) = first_of_lem _ _ _ (arm_judges core i buffer base length)
judges core lent (Disarm i buffer) = first_of_lem _ _ _ (disarm_judges core i buffer)
judges core lent (SetHalt i) = first_of_lem _ _ _ (set_halt_judges core i)
judges core lent (ClearHalt i) = first_of_lem _ _ _ (clear_halt_judges core i)
judges core lent (SetAddress address) = first_of_lem _ _ _ (set_address_judges core address)
judges core lent (BusReset speed) = first_of_lem _ _ _ (bus_reset_judges core speed)
judges core lent (RecordEvents i) = first_of_lem _ _ _ (record_events_judges core i)
judges core lent SystemEvents = first_of_lem _ _ _ (system_events_judges core)
judges core lent (Packet p) = first_lent core lent.memory lent.reply _ (packet_judges core lent.memory lent.reply p)
judges core lent Timeout = first_lent core lent.memory lent.reply _ (timeout_judges core lent.memory lent.reply)

-- ---- a refused call

abbrev Kept : Core → Lent → Call → Type 0
Kept core lent call =
    (refusal (the_core core lent call).answer ≡ 0 → ⊥) → ((the_core core lent call).core ≡ as_it_stood core call) × ((the_core core lent call).lent ≡ lent)

packet_kept : (core : Core) (lent : Lent) (p : List ℕ) → Kept core lent (Packet p)
packet_kept core lent p h = pick (lend_refusal core lent.memory lent.reply) refl
  where
    pick : (r : Result Unit Refusal) → lend_refusal core lent.memory lent.reply ≡ r → ((the_core core lent (Packet p)).core ≡ core) × ((the_core core lent (Packet p)).lent ≡ lent)
    pick (Ok done) z = absurd (h (ap (λ (o : Outcome). refusal o.answer) (call_accepted core lent p z)))
    pick (Err why) e =
        let c = call_refused core lent p why e in
        (ap (λ (o : Outcome). o.core) c, ap (λ (o : Outcome). o.lent) c)

timeout_kept : (core : Core) (lent : Lent) → Kept core lent Timeout
timeout_kept core lent h = (pick (lend_refusal core lent.memory lent.reply) refl, refl)
  where
    pick : (r : Result Unit Refusal) → lend_refusal core lent.memory lent.reply ≡ r → (timeout_of core lent.memory lent.reply).core ≡ core
    pick (Ok done) z = absurd (h (ap (λ (o : state.Outcome bus.Answer). number_in (by_number o.answer)) (timeout_accepted core lent.memory lent.reply z)))
    pick (Err why) e = ap (λ (o : state.Outcome bus.Answer). o.core) (timeout_refused core lent.memory lent.reply why e)

refused : {A : Type 0} (a : Result A Refusal) → (number_in (by_number a) ≡ 0 → ⊥) → number.refusal a ≡ 0 → ⊥
refused a h e = h (by_number_same a ∙ e)

pub refused_keeps : (core : Core) (lent : Lent) (call : Call) → Kept core lent call
refused_keeps core lent (Start M speed) h = (((start_judges M speed).kept (refused _ h)).0, refl)
refused_keeps core lent (Configure i condition e) h = (((configure_judges core i condition e).kept (refused _ h)).0, refl)
refused_keeps core lent (Arm i buffer base length) h = (((arm_judges core i buffer base length).kept (refused _ h)).0, refl)
refused_keeps core lent (Disarm i buffer) h = (((disarm_judges core i buffer).kept (refused _ h)).0, refl)
refused_keeps core lent (SetHalt i) h = (((set_halt_judges core i).kept (refused _ h)).0, refl)
refused_keeps core lent (ClearHalt i) h = (((clear_halt_judges core i).kept (refused _ h)).0, refl)
refused_keeps core lent (SetAddress address) h = (((set_address_judges core address).kept (refused _ h)).0, refl)
refused_keeps core lent (BusReset speed) h = (((bus_reset_judges core speed).kept (refused _ h)).0, refl)
refused_keeps core lent (RecordEvents i) h = (((record_events_judges core i).kept (refused _ h)).0, refl)
refused_keeps core lent SystemEvents h = (((system_events_judges core).kept (refused _ h)).0, refl)
refused_keeps core lent (Packet p) h = packet_kept core lent p h
refused_keeps core lent Timeout h = timeout_kept core lent h

-- ---- its memory

stored_length : (s : Option ℕ) (payload memory : List ℕ) → StoreWithin s (length payload) (length memory) → length (stored s payload memory) ≡ length memory
stored_length None payload memory w = refl
stored_length (Some place) payload memory w = same_size memory payload place w

-- a reply is at most 1,027 bytes
said_short : (s : Says) (memory : List ℕ) → SaysWithin s (length memory) → length (said s memory) ≤ 1027
said_short Silence memory w = omega arith
said_short Ack memory w = omega arith
said_short Nak memory w = omega arith
said_short Stall memory w = omega arith
said_short Nyet memory w = omega arith
said_short (Data toggle from count) memory w = omega (arith, sent_length (data_pid toggle) memory from count w.0, w.1)
said_short (Frame frame) memory w = omega arith

laid_length : (bytes reply : List ℕ) → length bytes ≤ length reply → length (laid bytes reply) ≡ length reply
laid_length bytes reply h = simp (length-append, length-drop) (omega (arith, h))

module _ (core : Core) (memory reply p : List ℕ) where
  lengths : (length (packet_of core memory reply p).memory ≡ length memory) × (length (packet_of core memory reply p).reply ≡ length reply)
  lengths = pick (lend_refusal core memory reply) refl
    where
      pick : (r : Result Unit Refusal) → lend_refusal core memory reply ≡ r → (length (packet_of core memory reply p).memory ≡ length memory) × (length (packet_of core memory reply p).reply ≡ length reply)
      pick (Ok done) z =
          let l = lending.lent core memory reply z in
          let a = packet_accepted core memory reply p z in
          let m = stored_length (packet_step core p).store (payload_of p) memory (subst (StoreWithin (packet_step core p).store (length (payload_of p))) (sym l.whole) (packet_store_within core l.sound p)) in
          let n = said_short (packet_step core p).says (stored (packet_step core p).store (payload_of p) memory) (subst (SaysWithin (packet_step core p).says) (sym (m ∙ l.whole)) (says_within core l.sound p)) in
          (ap (λ (x : Left). length x.memory) a ∙ m, ap (λ (x : Left). length x.reply) a ∙ laid_length (said (packet_step core p).says (stored (packet_step core p).store (payload_of p) memory)) reply (omega (arith, n, l.room)))
      pick (Err why) e =
          let k = packet_refused core memory reply p why e in
          (ap (λ (x : Left). length x.memory) k, ap (λ (x : Left). length x.reply) k)

same_lengths : (core : Core) (lent : Lent) (call : Call) → (length (the_core core lent call).lent.memory ≡ length lent.memory) × (length (the_core core lent call).lent.reply ≡ length lent.reply)
same_lengths core lent (Start M speed) = (refl, refl)
same_lengths core lent (Configure i condition e) = (refl, refl)
same_lengths core lent (Arm i buffer base length) = (refl, refl)
same_lengths core lent (Disarm i buffer) = (refl, refl)
same_lengths core lent (SetHalt i) = (refl, refl)
same_lengths core lent (ClearHalt i) = (refl, refl)
same_lengths core lent (SetAddress address) = (refl, refl)
same_lengths core lent (BusReset speed) = (refl, refl)
same_lengths core lent (RecordEvents i) = (refl, refl)
same_lengths core lent SystemEvents = (refl, refl)
same_lengths core lent (Packet p) = lengths core lent.memory lent.reply p
same_lengths core lent Timeout = (refl, refl)

-- ---- the whole

pub demand1 : Demand1 the_core
demand1 = record { stays_sound = run_sound; judges = judges; refused_keeps = refused_keeps; same_lengths = same_lengths; rest_kept = rest_kept }
