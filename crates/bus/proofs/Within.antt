-- What is stored and what is sent is of the memory, and short: the sums that are taken fit their widths. Assumes nothing.
use Prim.Native.Nat.{ℕ, ◌+◌, ◌-◌, ◌≤◌}
use native.Mathlib.Omega.{arith}
use mathlib.Core.Path.{◌≡◌, refl, sym, subst}
use mathlib.Core.Bool.{Bool, true, false}
use mathlib.Core.List.{List}
use lib.ListN.{length, drop, length-take}
use Rattle.std.specs.Prelude.{Option, Some, None}
use Rattle.wire.specs.declared.pid.Kind as pid
use Rattle.wire.specs.Data.{stretch, verdict_of, payload_by, payload_of}
use Rattle.wire.proofs.Reading.{passed}
use Rattle.state.specs.declared.Record.{Record}
use Rattle.state.specs.declared.Stage.{Stage}
use Rattle.state.specs.declared.Stage.TheVariants as stage
use Rattle.state.specs.declared.Wait.{Wait}
use Rattle.state.specs.declared.Wait.TheVariants as wait
use Rattle.state.specs.declared.Core.{Core}
use Rattle.state.specs.Update.{buffer_of, record_at}
use Rattle.state.specs.Ranges.{is_control, out_side, DescriptorSound, LiveSound, is_unused, done_of}
use Rattle.state.specs.Sound.{sends, DataWait, WaitSound, Sound}
use Rattle.state.proofs.Kept.{buffer_sound}
use Rattle.bus.specs.declared.active.Direction.TheVariants.{Out, In}
use Rattle.bus.specs.declared.token.Asks.{Asks}
use Rattle.bus.specs.declared.token.Asks.TheVariants as asks
use Rattle.bus.specs.declared.turn.Says.{Says}
use Rattle.bus.specs.declared.turn.Turn.{Turn}
use Rattle.bus.specs.declared.turn.Step.{Step}
use Rattle.bus.specs.Active.{chosen, active, place_of, Roomy, acknowledged}
use Rattle.bus.specs.Tokens.{direction_of, on_setup, on_ping, sending, on_in, turn_of}
use Rattle.bus.specs.Data.{taken, taking, after_out, setting_up, after_setup, staged, sequenced, data_turn}
use Rattle.bus.specs.Idle.{no_wait}
use Rattle.bus.specs.Arrival.{data_step, packet_step, missed, run_out, timed_out, StoreWithin}
use Rattle.bus.specs.Answers.{SaysWithin}
use Rattle.bus.proofs.Sizes.{maximum_most, control_least}
use Rattle.bus.proofs.Descriptors.{done_small, out_room, in_room, sent_most}
use Rattle.bus.proofs.Serving.{Serving, awaiting, its_sound, out_chosen, control_out, in_chosen}
use Rattle.bus.proofs.Turns.{ping_by, setup_by, in_by, after_setup_by, after_out_by, accepted_by}
use Rattle.bus.proofs.Cases.{data_by, no_wait_by, packet_by}
use Rattle.bus.proofs.Steps.{idle_stores_nothing}
use Rattle.bus.proofs.KeepsSound.{timeout_sound}

-- ---- the payload

pub payload_short : (p : List ℕ) → length (payload_of p) ≤ 1024
unfolding payload_of stretch
payload_short p = go (verdict_of p) refl
  where
    go : (v : Option pid.Kind) → verdict_of p ≡ v → length (payload_by v p) ≤ 1024
    go None e = omega arith
    go (Some k) e =
        let m = (passed p e).most in
        let n = length-take (length p - 3) (drop 1 p) in
        omega (arith, m, n)

-- ---- the store

module _ (core : Core) (w : Sound core) (i : ℕ) where
  abbrev M : ℕ
  M = core.memory_size

  abbrev r : Record
  r = record_at core i

  module _ (v : Serving core i Out) where
    s : LiveSound M core.speed r
    s = its_sound core w i Out v

    pub roomy : (n : ℕ) → n ≤ 1024 → Roomy r n
    roomy n h =
        let a = done_small M (out_side r.endpoint.kind false) r.endpoint.maximum r.first s.first_sound in
        let b = done_small M (out_side r.endpoint.kind true) r.endpoint.maximum r.second s.second_sound in
        (omega (arith, a, h), omega (arith, b, h))

    room : (n : ℕ) → n ≤ r.endpoint.maximum → (second : Bool) → out_side r.endpoint.kind second ≡ true → is_unused (buffer_of r second) ≡ true → place_of (buffer_of r second) + n ≤ M
    room n h second o u =
        out_room M r.endpoint.maximum n h (buffer_of r second)
        (subst (λ (out : Bool). DescriptorSound M out r.endpoint.maximum (buffer_of r second)) o (buffer_sound M core.speed r s second)) u

    after_out_within : (toggle : Bool) (n : ℕ) → StoreWithin (after_out core.speed r toggle n).store n M
    unfolding taking active
    after_out_within toggle n =
        after_out_by r (λ (t : Turn). StoreWithin t.store n M) toggle n core.speed
        (record {
          out_stall = tt;
          out_repeat = λ e. tt;
          out_no_buffer = λ e. tt;
          out_too_long = λ e. tt;
          out_take = λ h a. room n h (chosen Out r) (out_chosen r v.side) a;
        })

    after_setup_within : is_control r.endpoint.kind ≡ true → (toggle : Bool) (n : ℕ) → StoreWithin (after_setup r toggle n).store n M
    unfolding setting_up
    after_setup_within c toggle n =
        after_setup_by r (λ (t : Turn). StoreWithin t.store n M) toggle n
        (record {
          setup_taken = λ z u. let k = control_least core.speed r.endpoint s.endpoint_fitting c in room n (omega (arith, k, z)) false (control_out r.endpoint.kind c) u;
          not_taken = tt;
        })

    staged_within : (x : Stage) → DataWait r x → (toggle : Bool) (n : ℕ) → StoreWithin (staged core.speed x r toggle n).store n M
    staged_within stage.Setup d toggle n = after_setup_within d.stage_fitting toggle n
    staged_within stage.Out d toggle n = after_out_within toggle n

    pub store_within : (x : Stage) → DataWait r x → (y : Option pid.Kind) (n : ℕ) → StoreWithin (data_turn core.speed x r y n).store n M
    store_within x d y n =
        data_by core.speed x r y n (λ (t : Turn). StoreWithin t.store n M)
        (record { not_good = tt; out_of_place = tt; in_stage = λ toggle e. staged_within x d toggle n })

    -- ---- a handshake is no data

    staged_says : (x : Stage) (toggle : Bool) (n : ℕ) → SaysWithin (staged core.speed x r toggle n).says M
    unfolding taking setting_up
    staged_says stage.Setup toggle n =
        after_setup_by r (λ (t : Turn). SaysWithin t.says M) toggle n (record { setup_taken = λ z u. tt; not_taken = tt })
    staged_says stage.Out toggle n =
        after_out_by r (λ (t : Turn). SaysWithin t.says M) toggle n core.speed
        (record {
          out_stall = tt;
          out_repeat = λ e. tt;
          out_no_buffer = λ e. tt;
          out_too_long = λ e. tt;
          out_take = λ h a. accepted_by (λ (x : Says). SaysWithin x M) tt tt core.speed (taken r n);
        })

    data_says : (x : Stage) (y : Option pid.Kind) (n : ℕ) → SaysWithin (data_turn core.speed x r y n).says M
    data_says x y n =
        data_by core.speed x r y n (λ (t : Turn). SaysWithin t.says M)
        (record { not_good = tt; out_of_place = tt; in_stage = λ toggle e. staged_says x toggle n })

  pub sent_roomy : (second : Bool) (sent : ℕ) → WaitSound core (wait.Acknowledge i second sent) → Roomy r sent
  sent_roomy second sent x = pick second x.1.sent_so_many
    where
      v : Serving core i In
      v = record { index = x.0; is_live = x.1.is_live; side = x.1.in_side_served }

      t : LiveSound M core.speed r
      t = its_sound core w i In v

      a : done_of r.first ≤ 16383
      a = done_small M (out_side r.endpoint.kind false) r.endpoint.maximum r.first t.first_sound

      b : done_of r.second ≤ 16383
      b = done_small M (out_side r.endpoint.kind true) r.endpoint.maximum r.second t.second_sound

      pick : (second : Bool) → sends r.endpoint.maximum sent (buffer_of r second) ≡ true → Roomy r sent
      pick second e =
          let m = maximum_most core.speed r.endpoint t.endpoint_fitting in
          let n = sent_most r.endpoint.maximum sent (buffer_of r second) e in
          (omega (arith, a, m, n), omega (arith, b, m, n))

  -- ---- what is said

  module _ (v : Serving core i In) where
    sending_within : active In r ≡ true → SaysWithin (sending i r).says M
    unfolding sending active
    sending_within a =
        let t = its_sound core w i In v in
        let m = maximum_most core.speed r.endpoint t.endpoint_fitting in
        let n = in_room M r.endpoint.maximum (buffer_of r (chosen In r)) (subst (λ (out : Bool). DescriptorSound M out r.endpoint.maximum (buffer_of r (chosen In r))) (in_chosen r v.side) (buffer_sound M core.speed r t (chosen In r))) a in
        (n, omega (arith, m))

    in_within : SaysWithin (on_in i r).says M
    in_within =
        in_by r (λ (t : Turn). SaysWithin t.says M) i (record { in_stall = tt; in_nak = λ a. tt; in_send = sending_within })

  setup_within : SaysWithin (on_setup i r).says M
  setup_within = setup_by r (λ (t : Turn). SaysWithin t.says M) i (record { at_control = λ c. tt; elsewhere = tt })

  ping_within : SaysWithin (on_ping r).says M
  ping_within =
      ping_by r (λ (t : Turn). SaysWithin t.says M) (record { at_interrupt = tt; ping_stall = tt; ping_ack = λ a. tt; ping_nak = λ a. tt })

  turn_within : (a : Asks) → Serving core i (direction_of a) → SaysWithin (turn_of a i r).says M
  turn_within asks.Out v = tt
  turn_within asks.Setup v = setup_within
  turn_within asks.Ping v = ping_within
  turn_within asks.In v = in_within v

-- ---- every packet

idle_within : (core : Core) → Sound core → (p : List ℕ) → SaysWithin (no_wait core p).says core.memory_size
idle_within core w p =
    no_wait_by core p (λ (x : Step). SaysWithin x.says core.memory_size) w
    (record { quiet = tt; trouble = λ event. tt; frame = λ n. tt; token = λ a i e v. turn_within core w i a v })

same_memory : (core : Core) → (timed_out core).memory_size ≡ core.memory_size
unfolding timed_out missed
same_memory core = go core.wait
  where
    go : (v : Wait) → (run_out v core).memory_size ≡ core.memory_size
    go wait.Nothing = refl
    go (wait.Data i s) = refl
    go (wait.Acknowledge i b n) = refl

pub says_within : (core : Core) → Sound core → (p : List ℕ) → SaysWithin (packet_step core p).says core.memory_size
unfolding data_step acknowledged
says_within core w p =
    packet_by core p (λ (x : Step). SaysWithin x.says core.memory_size) w
    (record {
      awaited_data = λ i s e d x. data_says core w i (awaiting core i s x) s (verdict_of p) (length (payload_of p));
      awaited_ack = λ i b n e a x. tt;
      idle = λ e. subst (SaysWithin (no_wait (timed_out core) p).says) (same_memory core) (idle_within (timed_out core) (timeout_sound core w) p);
    })

-- the same of the step that was taken, and of the memory that was lent
pub said_within : (core : Core) → Sound core → (p : List ℕ) (x : Step) → x ≡ packet_step core p → (n : ℕ) → n ≡ core.memory_size → SaysWithin x.says n
said_within core w p x e n m = rw (e, m) (says_within core w p)

-- the same of a good packet's kind, and of the memory that was lent
pub kind_store_within : (core : Core) → Sound core → (i : ℕ) (s : Stage) → WaitSound core (wait.Data i s) → (k : pid.Kind) (n m : ℕ) → m ≡ core.memory_size → StoreWithin (sequenced core.speed s (record_at core i) k n).store n m
kind_store_within core w i s x k n m e = rw e (store_within core w i (awaiting core i s x) s x.1 (Some k) n)

-- what a packet stores is of the memory
pub packet_store_within : (core : Core) → Sound core → (p : List ℕ) → StoreWithin (packet_step core p).store (length (payload_of p)) core.memory_size
unfolding data_step acknowledged
packet_store_within core w p =
    packet_by core p (λ (x : Step). StoreWithin x.store (length (payload_of p)) core.memory_size) w
    (record {
      awaited_data = λ i s e d x. store_within core w i (awaiting core i s x) s x.1 (verdict_of p) (length (payload_of p));
      awaited_ack = λ i b n e a x. tt;
      idle = λ e. subst (λ (x : Option ℕ). StoreWithin x (length (payload_of p)) core.memory_size) (sym (idle_stores_nothing (timed_out core) (timeout_sound core w) p)) tt;
    })
