-- A payload is stored within the span of an armed buffer, so a byte that is in no such span is in front of the stretch or behind it. Assumes nothing.
use Prim.Native.Nat.{ℕ, ◌+◌, ◌-◌, ◌<◌, ◌≤◌}
use native.Mathlib.Omega.{arith}
use mathlib.Core.Path.{◌≡◌, refl, sym, ◌∙◌, ap, subst}
use mathlib.Core.Logic.{◌⊎◌, inl, inr}
use mathlib.Core.Bool.{Bool, true, false, ◌&&◌, cond, false≢true}
use mathlib.Core.List.{List}
use lib.Dec.{leb, ltb}
use lib.ListN.{length, drop, get_or}
use lib.Seq.{get_or-take, get_or-drop}
use borrow.Author.Tests.{leb-false, ltb-false}
use Rattle.std.specs.Prelude.{Option, Some, None, Result, Ok, Err}
use Rattle.refusals.specs.declared.Refusal.{Refusal}
use Rattle.wire.specs.declared.pid.Kind.{Kind}
use Rattle.wire.specs.Data.{verdict_of, payload_of}
use Rattle.state.specs.declared.Descriptor.{Descriptor}
use Rattle.state.specs.declared.Descriptor.TheVariants.{Unallocated, Armed}
use Rattle.state.specs.declared.Record.{Record}
use Rattle.state.specs.declared.Stage.{Stage}
use Rattle.state.specs.declared.Stage.TheVariants as stage
use Rattle.state.specs.declared.Core.{Core}
use Rattle.state.specs.Update.{buffer_of, record_at}
use Rattle.state.specs.Ranges.{is_control, out_side, is_unused, DescriptorSound, LiveSound}
use Rattle.state.specs.Sound.{DataWait, Sound}
use Rattle.state.proofs.Kept.{buffer_sound}
use Rattle.bus.specs.declared.active.Direction.TheVariants.{Out}
use Rattle.bus.specs.declared.turn.Turn.{Turn}
use Rattle.bus.specs.declared.turn.Step.{Step}
use Rattle.bus.specs.Turn.{written}
use Rattle.bus.specs.Active.{chosen, active, left_of, place_of, grown, spent, acknowledged}
use Rattle.bus.specs.Data.{taking, after_out, setting_up, after_setup, staged, data_turn}
use Rattle.bus.specs.Arrival.{data_step, packet_step, timed_out}
use Rattle.bus.specs.Calls.{lend_refusal}
use Rattle.bus.proofs.Sizes.{control_least}
use Rattle.bus.proofs.Descriptors.{stored_sound}
use Rattle.bus.proofs.Serving.{Serving, awaiting, its_sound, out_chosen, control_out}
use Rattle.bus.proofs.Turns.{after_setup_by, after_out_by}
use Rattle.bus.proofs.Cases.{data_by, packet_by}
use Rattle.bus.proofs.KeepsSound.{timeout_sound}
use Rattle.bus.proofs.Steps.{idle_stores_nothing}
use Rattle.bus.proofs.Lent as lending
use Rattle.bus.proofs.Stretches.{bytes_in_front, bytes_behind, memory_kept, stored_call}
use Rattle.demands.specs.Behaviour.{Lent, Call, Start, Configure, Arm, Disarm, SetHalt, ClearHalt, SetAddress, BusReset, RecordEvents, SystemEvents, Packet, Timeout, Outcome, the_core}
use Rattle.demands.specs.Demand1.{in_span, Unarmed}
use Rattle.demands.proofs.BusCalls.{call_refused}

-- in front of n bytes from a place on, or behind them
abbrev Beside : ℕ → ℕ → ℕ → Type 0
Beside place from n = (place < from) ⊎ (from + n ≤ place)

-- ---- the bytes that are written

module _ (memory payload : List ℕ) (from : ℕ) (within : from + length payload ≤ length memory) (place : ℕ) where
  in_front_kept : place < from → get_or (written from payload memory) place 0 ≡ get_or memory place 0
  in_front_kept h =
      sym (get_or-take from (written from payload memory) place 0 h)
      ∙ ap (λ (l : List ℕ). get_or l place 0) (bytes_in_front memory payload from within)
      ∙ get_or-take from memory place 0 h

  behind_kept : from + length payload ≤ place → get_or (written from payload memory) place 0 ≡ get_or memory place 0
  behind_kept h =
      read_behind (written from payload memory)
      ∙ ap (λ (l : List ℕ). get_or l (place - end) 0) (bytes_behind memory payload from within)
      ∙ sym (read_behind memory)
    where
      end : ℕ
      end = from + length payload

      further : place ≡ end + (place - end)
      further = omega (arith, h)

      read_behind : (l : List ℕ) → get_or l place 0 ≡ get_or (drop end l) (place - end) 0
      read_behind l = ap (λ (n : ℕ). get_or l n 0) further ∙ sym (get_or-drop end l (place - end) 0)

  written_beside : Beside place from (length payload) → get_or (written from payload memory) place 0 ≡ get_or memory place 0
  written_beside (inl h) = in_front_kept h
  written_beside (inr h) = behind_kept h

-- ---- the span of an unused buffer

outside_span : (place base length : ℕ) → (leb base place && ltb place (base + length)) ≡ false → Beside place base length
outside_span place base length f = pick (leb base place) refl f
  where
    pick : (b : Bool) → leb base place ≡ b → (b && ltb place (base + length)) ≡ false → Beside place base length
    pick true e f = inr (ltb-false place (base + length) f)
    pick false e f = inl (leb-false base place e)

module _ (M maximum n : ℕ) (most : n ≤ maximum) where
  -- what is done of it after the store is at most its length
  room_left : (base length done : ℕ) (used : Bool) → let d = Armed base length done used in DescriptorSound M true maximum d → is_unused d ≡ true → done + n ≤ length
  room_left base length done used s u =
      pick (ltb (left_of (grown d n)) maximum) (stored_sound M maximum n most d s u)
    where
      d : Descriptor
      d = Armed base length done used

      pick : (b : Bool) → DescriptorSound M true maximum (cond b (spent (grown d n)) (grown d n)) → done + n ≤ length
      pick true x = x.done_within
      pick false x = x.done_within

  beside_buffer : (place : ℕ) (d : Descriptor) → DescriptorSound M true maximum d → is_unused d ≡ true → in_span place d ≡ false → Beside place (place_of d) n
  beside_buffer place Unallocated s u f = absurd (false≢true u)
  beside_buffer place (Armed base length done used) s u f = go (outside_span place base length f)
    where
      r : done + n ≤ length
      r = room_left base length done used s u

      go : Beside place base length → Beside place (base + done) n
      go (inl h) = inl (omega (arith, h))
      go (inr h) = inr (omega (arith, h, r))

-- ---- the store of a packet

abbrev StoredBeside : ℕ → ℕ → Option ℕ → Type 0
StoredBeside place n None = Unit {0}
StoredBeside place n (Some from) = Beside place from n

module _ (core : Core) (w : Sound core) (place : ℕ) (free : Unarmed core place) where
  module _ (i : ℕ) (v : Serving core i Out) (n : ℕ) where
    abbrev r : Record
    r = record_at core i

    abbrev Spares : Turn → Type 0
    Spares t = StoredBeside place n t.store

    s : LiveSound core.memory_size core.speed r
    s = its_sound core w i Out v

    buffer_spares : n ≤ r.endpoint.maximum → (second : Bool) → out_side r.endpoint.kind second ≡ true → is_unused (buffer_of r second) ≡ true → Beside place (place_of (buffer_of r second)) n
    buffer_spares h second o u =
        beside_buffer core.memory_size r.endpoint.maximum n h place (buffer_of r second)
        (subst (λ (out : Bool). DescriptorSound core.memory_size out r.endpoint.maximum (buffer_of r second)) o (buffer_sound core.memory_size core.speed r s second))
        u (free i second)

    out_spares : (toggle : Bool) → Spares (after_out core.speed r toggle n)
    unfolding taking active
    out_spares toggle =
        after_out_by r Spares toggle n core.speed
        (record {
          out_stall = tt;
          out_repeat = λ e. tt;
          out_no_buffer = λ e. tt;
          out_too_long = λ e. tt;
          out_take = λ h a. buffer_spares h (chosen Out r) (out_chosen r v.side) a;
        })

    setup_spares : is_control r.endpoint.kind ≡ true → (toggle : Bool) → Spares (after_setup r toggle n)
    unfolding setting_up
    setup_spares c toggle =
        after_setup_by r Spares toggle n
        (record {
          setup_taken = λ z u. let k = control_least core.speed r.endpoint s.endpoint_fitting c in buffer_spares (omega (arith, k, z)) false (control_out r.endpoint.kind c) u;
          not_taken = tt;
        })

    staged_spares : (x : Stage) → DataWait r x → (toggle : Bool) → Spares (staged core.speed x r toggle n)
    staged_spares stage.Setup d toggle = setup_spares d.stage_fitting toggle
    staged_spares stage.Out d toggle = out_spares toggle

    data_spares : (x : Stage) → DataWait r x → (y : Option Kind) → Spares (data_turn core.speed x r y n)
    data_spares x d y =
        data_by core.speed x r y n Spares
        (record { not_good = tt; out_of_place = tt; in_stage = λ toggle e. staged_spares x d toggle })

  step_spares : (p : List ℕ) → StoredBeside place (length (payload_of p)) (packet_step core p).store
  unfolding data_step acknowledged
  step_spares p =
      packet_by core p (λ (x : Step). StoredBeside place (length (payload_of p)) x.store) w
      (record {
        awaited_data = λ i x e d y. data_spares i (awaiting core i x y) (length (payload_of p)) x y.1 (verdict_of p);
        awaited_ack = λ i b n e a y. tt;
        idle = λ e. subst (StoredBeside place (length (payload_of p))) (sym (idle_stores_nothing (timed_out core) (timeout_sound core w) p)) tt;
      })

-- ---- the call

abbrev Keeps : Core → Lent → Call → Type 0
Keeps core lent call =
    (place : ℕ) → Unarmed core place → get_or (the_core core lent call).lent.memory place 0 ≡ get_or lent.memory place 0

module _ (core : Core) (lent : Lent) (p : List ℕ) where
  abbrev refused_as : Result Unit Refusal
  refused_as = lend_refusal core lent.memory lent.reply

  stored_keeps : (from : ℕ) → refused_as ≡ Ok tt → (packet_step core p).store ≡ Some from → Keeps core lent (Packet p)
  stored_keeps from z e place free =
      let w = (lending.lent core lent.memory lent.reply z).sound in
      let c = stored_call core lent.memory lent.reply p from z e in
      let b = subst (StoredBeside place (length (payload_of p))) e (step_spares core w place free p) in
      ap (λ (l : List ℕ). get_or l place 0) c.0 ∙ written_beside lent.memory (payload_of p) from c.1 place b

  packet_keeps_rest : Keeps core lent (Packet p)
  packet_keeps_rest place free = by_store (packet_step core p).store refl
    where
      unwritten : (the_core core lent (Packet p)).lent.memory ≡ lent.memory → get_or (the_core core lent (Packet p)).lent.memory place 0 ≡ get_or lent.memory place 0
      unwritten = ap (λ (l : List ℕ). get_or l place 0)

      pick : (from : ℕ) → (packet_step core p).store ≡ Some from → (r : Result Unit Refusal) → refused_as ≡ r → get_or (the_core core lent (Packet p)).lent.memory place 0 ≡ get_or lent.memory place 0
      pick from e (Ok done) z = stored_keeps from z e place free
      pick from e (Err why) f = unwritten (ap (λ (o : Outcome). o.lent.memory) (call_refused core lent p why f))

      by_store : (x : Option ℕ) → (packet_step core p).store ≡ x → get_or (the_core core lent (Packet p)).lent.memory place 0 ≡ get_or lent.memory place 0
      by_store None e = unwritten (memory_kept core lent.memory lent.reply p e)
      by_store (Some from) e = pick from e refused_as refl

-- only a packet is stored
pub rest_kept : (core : Core) (lent : Lent) (call : Call) → Keeps core lent call
rest_kept core lent (Start M speed) place free = refl
rest_kept core lent (Configure i condition e) place free = refl
rest_kept core lent (Arm i buffer base length) place free = refl
rest_kept core lent (Disarm i buffer) place free = refl
rest_kept core lent (SetHalt i) place free = refl
rest_kept core lent (ClearHalt i) place free = refl
rest_kept core lent (SetAddress address) place free = refl
rest_kept core lent (BusReset speed) place free = refl
rest_kept core lent (RecordEvents i) place free = refl
rest_kept core lent SystemEvents place free = refl
rest_kept core lent (Packet p) place free = packet_keeps_rest core lent p place free
rest_kept core lent Timeout place free = refl
