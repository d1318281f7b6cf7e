-- Each call takes a sound state to a sound state. Assumes nothing.
use Prim.Native.Nat.{ℕ, zero, suc, ◌+◌, ◌-◌, ◌%◌, ◌<◌}
use native.Mathlib.Omega.{arith}
use native.Mathlib.Nat.{mod-eq_of_lt, sub-zero}
use mathlib.Core.Path.{◌≡◌, refl, sym, ◌∙◌, ap}
use mathlib.Core.Bool.{Bool, true, false, not, ◌&&◌, ◌||◌, cond, beq, true≢false}
use mathlib.Core.List.{[]}
use Rattle.std.specs.Prelude.{Result, Ok, Err}
use lib.Dec.{ltb, eqb}
use lib.ListN.{set}
use borrow.Author.Tests.{ltb-true, ltb-false, lt-ltb, eqb-true, eqb-false, eq-eqb, not-false}
use Rattle.laws.specs.Lists.{all, pairs}
use Rattle.laws.proofs.Bools.{neither}
use Rattle.refusals.specs.declared.Refusal.{Refusal}
use Rattle.refusals.specs.Refusals.{judged}
use Rattle.refusals.proofs.Judging.{judged_passed}
use Rattle.state.specs.declared.Speed.{Speed}
use Rattle.state.specs.declared.Speed.TheVariants.{Full}
use Rattle.state.specs.declared.Condition.{Condition}
use Rattle.state.specs.declared.Condition.TheVariants.{Off, Normal, Halted}
use Rattle.state.specs.declared.Kind.{Kind}
use Rattle.state.specs.declared.Kind.TheVariants as kind
use Rattle.state.specs.declared.Endpoint.{Endpoint}
use Rattle.state.specs.declared.Toggles.{Toggles}
use Rattle.state.specs.declared.Descriptor.{Descriptor}
use Rattle.state.specs.declared.Descriptor.TheVariants.{Unallocated, Armed}
use Rattle.state.specs.declared.Record.{Record}
use Rattle.state.specs.declared.Stage.{Stage}
use Rattle.state.specs.declared.Wait.{Wait}
use Rattle.state.specs.declared.Wait.TheVariants.{Nothing, Data, Acknowledge}
use Rattle.state.specs.declared.Core.{Core}
use Rattle.state.specs.Update.{no_events, no_system_events, data0, fresh, off_record, with_condition, with_events, with_toggles, buffer_of, with_buffer, started, with_address, with_system_events, record_at, with_record}
use Rattle.state.specs.Ranges.{live, is_armed, is_unused, out_side, no_multiple, misplaced, mark_fits, toggles_fit, endpoint_fits, ArmedSound, DescriptorSound, SoundAs, RecordSound}
use Rattle.state.specs.Served.{beside}
use Rattle.state.specs.Spans.{span_from, apart, spans_in, spans_of, armed_spans}
use Rattle.state.specs.Sound.{sends, WaitSound, Sound}
use Rattle.state.proofs.Ends.{off_beside_all}
use Rattle.state.proofs.Kept.{as_live, from_live, with_buffer_sound, emptied_apart, filled_apart, same_apart, same_served, other_served, wait_kept, replaced, all_off}
use Rattle.firmware.specs.Answers.{settled}
use Rattle.firmware.specs.Device.{start_tests, start_of, address_tests, set_address_of, sound_tests, after_reset, bus_reset_of, system_events_of}
use Rattle.firmware.specs.Records.{waits_on, in_use, served_elsewhere, index_tests, configure_tests, configure_of, halt_tests, set_halt_of, clear_halt_of, record_events_of}
use Rattle.firmware.specs.Buffers.{is_second, shares_byte, arm_tests, armed, arm_of, disarm_tests, disarm_of}

-- a call that is not refused gives the state after it, any other the state before it
settled_sound : (r : Result Unit Refusal) (before after : Core) (number : ℕ) → Sound before → (r ≡ Ok tt → Sound after) → Sound (settled r before after number).core
unfolding settled
settled_sound (Ok done) before after number w f = f refl
settled_sound (Err why) before after number w f = w

-- ---- the core as a whole

pub start_sound : (M : ℕ) (speed : Speed) → Sound (start_of M speed).core
unfolding start_of
start_sound M speed =
    settled_sound (judged (start_tests M)) (started 0 Full) (started M speed) 0
    (all_off (started 0 Full) (omega arith) (omega arith) refl refl)
    (λ e. all_off (started M speed) (ltb-false 131072 M (judged_passed (start_tests M) e).0) (omega arith) refl refl)

pub set_address_sound : (core : Core) (address : ℕ) → Sound core → Sound (set_address_of core address).core
unfolding set_address_of
set_address_sound core address w =
    settled_sound (judged (address_tests core address)) core (with_address core address) 0 w
    (λ e. record {
      sixteen = w.sixteen;
      memory_within = w.memory_within;
      address_within = ltb-false 127 address (judged_passed (address_tests core address) e).1.0;
      each_record = w.each_record;
      served_once = w.served_once;
      spans_apart = w.spans_apart;
      wait_sound = within core address core.wait w.wait_sound;
    })
  where
    within : (core : Core) (address : ℕ) (wait : Wait) → WaitSound core wait → WaitSound (with_address core address) wait
    within core address Nothing s = tt
    within core address (Data j stage) s = s
    within core address (Acknowledge j buffer sent) s = s

pub bus_reset_sound : (core : Core) (speed : Speed) → Sound core → Sound (bus_reset_of core speed).core
unfolding bus_reset_of
bus_reset_sound core speed w =
    settled_sound (judged (sound_tests core)) core (after_reset core speed) 0 w
    (λ e. all_off (after_reset core speed) w.memory_within w.address_within refl refl)

pub system_events_sound : (core : Core) → Sound core → Sound (system_events_of core).core
unfolding system_events_of
system_events_sound core w =
    settled_sound (judged (sound_tests core)) core (with_system_events core no_system_events) _ w
    (λ e. record {
      sixteen = w.sixteen;
      memory_within = w.memory_within;
      address_within = w.address_within;
      each_record = w.each_record;
      served_once = w.served_once;
      spans_apart = w.spans_apart;
      wait_sound = within core core.wait w.wait_sound;
    })
  where
    within : (core : Core) (wait : Wait) → WaitSound core wait → WaitSound (with_system_events core no_system_events) wait
    within core Nothing s = tt
    within core (Data j stage) s = s
    within core (Acknowledge j buffer sent) s = s

-- ---- one record

index : (i : ℕ) → ltb 15 i ≡ false → i < 16
index i e = omega (arith, ltb-false 15 i e)

-- where the core does not wait on the record, the wait does not matter
elsewhere_kept : (core : Core) (w : Sound core) (i : ℕ) (h : i < 16) (q : Record) → waits_on core.wait i ≡ false → WaitSound (with_record core i q) core.wait
elsewhere_kept core w i h q e =
    wait_kept core w i h q core.wait
    (λ stage v d. absurd (true≢false (sym (on_data stage v) ∙ e)))
    (λ buffer sent v a. absurd (true≢false (sym (on_ack buffer sent v) ∙ e)))
    w.wait_sound
  where
    on_data : (stage : Stage) → core.wait ≡ Data i stage → waits_on core.wait i ≡ true
    on_data stage v = ap (λ (x : Wait). waits_on x i) v ∙ eq-eqb i i refl

    on_ack : (buffer : Bool) (sent : ℕ) → core.wait ≡ Acknowledge i buffer sent → waits_on core.wait i ≡ true
    on_ack buffer sent v = ap (λ (x : Wait). waits_on x i) v ∙ eq-eqb i i refl

toggles_zero : (k : Kind) → toggles_fit k data0 ≡ true
toggles_zero kind.Control = refl
toggles_zero kind.In = refl
toggles_zero kind.Out = refl

module _ (core : Core) (w : Sound core) (i : ℕ) where
  -- a live record with another live condition and toggles that fit
  revived : i < 16 → (c : Condition) → live c ≡ true → live (record_at core i).condition ≡ true → (t : Toggles) → toggles_fit (record_at core i).endpoint.kind t ≡ true → waits_on core.wait i ≡ false → Sound (with_record core i (with_toggles (with_condition (record_at core i) c) t))
  revived h c lc lr t f v =
      let s = as_live (record_at core i).condition core.memory_size core.speed (record_at core i) lr (w.each_record i h) in
      replaced core w i h (with_toggles (with_condition (record_at core i) c) t)
      (from_live c core.memory_size core.speed (with_toggles (with_condition (record_at core i) c) t) lc (record { endpoint_fitting = s.endpoint_fitting; toggles_fitting = f; first_sound = s.first_sound; second_sound = s.second_sound }))
      (same_served core w i h (with_toggles (with_condition (record_at core i) c) t) (rw (lc, lr)))
      (same_apart core w i h (with_toggles (with_condition (record_at core i) c) t) refl)
      (elsewhere_kept core w i h (with_toggles (with_condition (record_at core i) c) t) v)

  pub set_halt_sound : Sound (set_halt_of core i).core
  unfolding set_halt_of
  set_halt_sound =
      settled_sound (judged (halt_tests core i)) core _ 0 w
      (λ e. let p = judged_passed (halt_tests core i) e in
      let h = index i p.1.0 in
      let l = not-false (live (record_at core i).condition) p.1.1.1.0 in
      let s = as_live (record_at core i).condition core.memory_size core.speed (record_at core i) l (w.each_record i h) in
      revived h Halted refl l (record_at core i).toggles s.toggles_fitting p.1.1.0)

  pub clear_halt_sound : Sound (clear_halt_of core i).core
  unfolding clear_halt_of
  clear_halt_sound =
      settled_sound (judged (halt_tests core i)) core _ 0 w
      (λ e. let p = judged_passed (halt_tests core i) e in
      revived (index i p.1.0) Normal refl (not-false (live (record_at core i).condition) p.1.1.1.0) data0 (toggles_zero (record_at core i).endpoint.kind) p.1.1.0)

-- ---- a record's events

events_kept : (c : Condition) (M : ℕ) (speed : Speed) (r : Record) → SoundAs c M speed r → SoundAs c M speed (with_events r no_events)
events_kept Off M speed r w = ap (λ (x : Record). with_events x no_events) w
events_kept Normal M speed r w =
    record { endpoint_fitting = w.endpoint_fitting; toggles_fitting = w.toggles_fitting; first_sound = w.first_sound; second_sound = w.second_sound }
events_kept Halted M speed r w =
    record { endpoint_fitting = w.endpoint_fitting; toggles_fitting = w.toggles_fitting; first_sound = w.first_sound; second_sound = w.second_sound }

pub record_events_sound : (core : Core) (i : ℕ) → Sound core → Sound (record_events_of core i).core
unfolding record_events_of
record_events_sound core i w =
    settled_sound (judged (index_tests core i [])) core _ _ w
    (λ e. let h = index i (judged_passed (index_tests core i []) e).1.0 in
    replaced core w i h (with_events (record_at core i) no_events)
    (events_kept (record_at core i).condition core.memory_size core.speed (record_at core i) (w.each_record i h))
    (same_served core w i h (with_events (record_at core i) no_events) refl)
    (same_apart core w i h (with_events (record_at core i) no_events) refl)
    (wait_kept core w i h (with_events (record_at core i) no_events) core.wait
    (λ stage v d. record { is_live = d.is_live; out_side_served = d.out_side_served; stage_fitting = d.stage_fitting })
    (λ buffer sent v a. record { is_live = a.is_live; in_side_served = a.in_side_served; sent_from = a.sent_from; sent_so_many = a.sent_so_many })
    w.wait_sound))

-- ---- configure

none_of_three : (a b c : Bool) → (a || b || c) ≡ false → (a ≡ false) × ((b ≡ false) × (c ≡ false))
none_of_three a b c e =
    let p = neither (a || b) c e in
    let q = neither a b p.0 in
    (q.0, (q.1, p.1))

unarmed : (d : Descriptor) → is_armed d ≡ false → spans_in d ≡ []
unarmed Unallocated e = refl
unarmed (Armed base length done used) e = absurd (true≢false e)

module _ (core : Core) (w : Sound core) (i : ℕ) (h : i < 16) (unused : in_use core i ≡ false) where
  idle : (is_armed (record_at core i).first ≡ false) × ((is_armed (record_at core i).second ≡ false) × (waits_on core.wait i ≡ false))
  unfolding in_use
  idle = none_of_three (is_armed (record_at core i).first) (is_armed (record_at core i).second) (waits_on core.wait i) unused

  -- an idle record is replaced by one with nothing armed
  put : (q : Record) → RecordSound core.memory_size core.speed q → all (beside q) (set core.records i off_record) ≡ true → spans_of q ≡ [] → Sound (with_record core i q)
  put q s b n =
      replaced core w i h q s (other_served core w i h q b)
      (same_apart core w i h q (n ∙ sym (rw (unarmed (record_at core i).first idle.0, unarmed (record_at core i).second idle.1.0))))
      (elsewhere_kept core w i h q idle.1.1)

  fresh_sound : (e : Endpoint) → endpoint_fits core.speed e ≡ true → served_elsewhere core i e ≡ false → Sound (with_record core i (fresh Normal e))
  unfolding served_elsewhere
  fresh_sound e f s =
      put (fresh Normal e)
      (record { endpoint_fitting = f; toggles_fitting = toggles_zero e.kind; first_sound = tt; second_sound = tt })
      (not-false (all (beside (fresh Normal e)) (set core.records i off_record)) s)
      refl

pub configure_sound : (core : Core) (i : ℕ) (condition : Condition) (e : Endpoint) → Sound core → Sound (configure_of core i condition e).core
unfolding configure_of
configure_sound core i Off e w =
    settled_sound (judged (configure_tests core i Off e)) core _ 0 w
    (λ n. let p = judged_passed (configure_tests core i Off e) n in
    put core w i (index i p.1.0) p.1.1.0 off_record refl (off_beside_all (set core.records i off_record)) refl)
configure_sound core i Normal e w =
    settled_sound (judged (configure_tests core i Normal e)) core _ 0 w
    (λ n. let p = judged_passed (configure_tests core i Normal e) n in
    fresh_sound core w i (index i p.1.0) p.1.1.0 e (not-false (endpoint_fits core.speed e) p.1.1.1.0) p.1.1.1.1.0)
configure_sound core i Halted e w =
    settled_sound (judged (configure_tests core i Halted e)) core _ 0 w
    (λ n. absurd (true≢false (judged_passed (configure_tests core i Halted e) n).1.1.1.0))

-- ---- arm and disarm

-- a length that is a multiple of the maximum, and not 0, is at least the maximum
whole_packet : (maximum length : ℕ) → no_multiple length maximum ≡ false → ltb length maximum ≡ false
whole_packet maximum length e = pick (ltb length maximum) refl
  where
    p : (false ≡ false) × ((eqb length 0 ≡ false) × (not (eqb (length % maximum) 0) ≡ false))
    p = none_of_three false (eqb length 0) (not (eqb (length % maximum) 0)) e

    pick : (b : Bool) → ltb length maximum ≡ b → b ≡ false
    pick false l = refl
    pick true l =
        absurd (eqb-false length 0 p.1.0 (sym (mod-eq_of_lt (ltb-true length maximum l)) ∙ eqb-true (length % maximum) 0 (not-false (eqb (length % maximum) 0) p.1.1)))

module _ (M : ℕ) (out : Bool) (maximum base length : ℕ) where
  -- a buffer that is armed is sound: nothing is done of it
  armed_sound : misplaced M out maximum base length ≡ false → ArmedSound M out maximum base length 0 false
  unfolding misplaced mark_fits
  armed_sound e = record { placed = e; done_within = omega arith; mark = mark out (last out e) }
    where
      last : (out : Bool) → (ltb 131070 base || ltb 16383 length || ltb M (base + length) || out && no_multiple length maximum) ≡ false → (out && no_multiple length maximum) ≡ false
      last out e = (none_of_three (ltb 131070 base || ltb 16383 length) (ltb M (base + length)) (out && no_multiple length maximum) e).1.1

      some : (n : ℕ) → (ltb 0 (n - 0) || eqb n 0) ≡ true
      some zero = refl
      some (suc n) = rw (lt-ltb 0 (suc n - 0) (omega arith))

      mark : (out : Bool) → (out && no_multiple length maximum) ≡ false → cond out (beq false (ltb (length - 0) maximum)) (ltb 0 (length - 0) || eqb length 0) ≡ true
      mark true n = rw (sub-zero length, whole_packet maximum length n)
      mark false n = some length

-- a buffer that sends is armed and not used
sends_unused : (maximum sent : ℕ) (d : Descriptor) → sends maximum sent d ≡ true → is_unused d ≡ true
sends_unused maximum sent Unallocated e = e
sends_unused maximum sent (Armed base length done true) e = e
sends_unused maximum sent (Armed base length done false) e = refl

-- so a wait for an acknowledge does not name the buffer that is armed
sends_kept : (r : Record) (second buffer : Bool) (d : Descriptor) (maximum sent : ℕ) → is_unused (buffer_of r second) ≡ false → sends maximum sent (buffer_of r buffer) ≡ true → sends maximum sent (buffer_of (with_buffer r second d) buffer) ≡ true
sends_kept r false false d maximum sent n e = absurd (true≢false (sym (sends_unused maximum sent r.first e) ∙ n))
sends_kept r false true d maximum sent n e = e
sends_kept r true false d maximum sent n e = e
sends_kept r true true d maximum sent n e = absurd (true≢false (sym (sends_unused maximum sent r.second e) ∙ n))

module _ (core : Core) (w : Sound core) (i : ℕ) (h : i < 16) (l : live (record_at core i).condition ≡ true) (second : Bool) where
  -- a live record with one buffer given anew
  buffer_given : (d : Descriptor) → DescriptorSound core.memory_size (out_side (record_at core i).endpoint.kind second) (record_at core i).endpoint.maximum d → pairs apart (armed_spans (set core.records i (with_buffer (record_at core i) second d))) ≡ true → WaitSound (with_record core i (with_buffer (record_at core i) second d)) core.wait → Sound (with_record core i (with_buffer (record_at core i) second d))
  buffer_given d s a v =
      replaced core w i h (with_buffer (record_at core i) second d)
      (from_live (record_at core i).condition core.memory_size core.speed (with_buffer (record_at core i) second d) l (with_buffer_sound core.memory_size core.speed (record_at core i) second d (as_live (record_at core i).condition core.memory_size core.speed (record_at core i) l (w.each_record i h)) s))
      (same_served core w i h (with_buffer (record_at core i) second d) refl)
      a
      v

  armed_keeps : (base length : ℕ) → is_unused (buffer_of (record_at core i) second) ≡ false → misplaced core.memory_size (out_side (record_at core i).endpoint.kind second) (record_at core i).endpoint.maximum base length ≡ false → shares_byte core i second base length ≡ false → Sound (armed core i second base length)
  unfolding shares_byte
  armed_keeps base length n m s =
      buffer_given (Armed base length 0 false)
      (armed_sound core.memory_size (out_side (record_at core i).endpoint.kind second) (record_at core i).endpoint.maximum base length m)
      (filled_apart core w i h second base length 0 false (not-false (all (apart (span_from base length)) (armed_spans (set core.records i (with_buffer (record_at core i) second Unallocated)))) s))
      (wait_kept core w i h (with_buffer (record_at core i) second (Armed base length 0 false)) core.wait
      (λ stage v d. record { is_live = d.is_live; out_side_served = d.out_side_served; stage_fitting = d.stage_fitting })
      (λ buffer sent v a. record { is_live = a.is_live; in_side_served = a.in_side_served; sent_from = a.sent_from; sent_so_many = sends_kept (record_at core i) second buffer (Armed base length 0 false) (record_at core i).endpoint.maximum sent n a.sent_so_many })
      w.wait_sound)

pub arm_sound : (core : Core) (i buffer base length : ℕ) → Sound core → Sound (arm_of core i buffer base length).core
unfolding arm_of
arm_sound core i buffer base length w =
    settled_sound (judged (arm_tests core i buffer base length)) core _ 0 w
    (λ e. let p = judged_passed (arm_tests core i buffer base length) e in
    armed_keeps core w i (index i p.1.0) (not-false (live (record_at core i).condition) p.1.1.0) (is_second buffer) base length p.1.1.1.1.0 p.1.1.1.1.1.0 p.1.1.1.1.1.1.0)

pub disarm_sound : (core : Core) (i buffer : ℕ) → Sound core → Sound (disarm_of core i buffer).core
unfolding disarm_of
disarm_sound core i buffer w =
    settled_sound (judged (disarm_tests core i buffer)) core _ _ w
    (λ e. let p = judged_passed (disarm_tests core i buffer) e in
    let h = index i p.1.0 in
    buffer_given core w i h (not-false (live (record_at core i).condition) p.1.1.1.0) (is_second buffer) Unallocated tt
    (emptied_apart core w i h (is_second buffer))
    (elsewhere_kept core w i h (with_buffer (record_at core i) (is_second buffer) Unallocated) p.1.1.0))
