-- A packet and a timeout take a sound state to a sound state: each turn moves the record that it is for. Assumes nothing.
use Prim.Native.Nat.{ℕ, ◌≤◌, ◌<◌}
use native.Mathlib.Omega.{arith}
use mathlib.Core.Path.{◌≡◌, refl, sym, ◌∙◌, ap, subst}
use mathlib.Core.Bool.{Bool, true, false, not, ◌||◌, false≢true}
use mathlib.Core.List.{List}
use lib.Dec.{ltb}
use lib.ListN.{length}
use Rattle.std.specs.Prelude.{Option}
use Rattle.wire.specs.declared.pid.Kind as pid
use Rattle.wire.specs.Data.{verdict_of, payload_of}
use Rattle.state.specs.declared.Condition.TheVariants.{Normal}
use Rattle.state.specs.declared.Kind.{Kind}
use Rattle.state.specs.declared.Kind.TheVariants as kind
use Rattle.state.specs.declared.Endpoint.{Endpoint}
use Rattle.state.specs.declared.Toggles.{Toggles}
use Rattle.state.specs.declared.RecordEvent.{RecordEvent}
use Rattle.state.specs.declared.RecordEvent.TheVariants.{WaitEnded, NotGood, OutOfPlace, NotTaken}
use Rattle.state.specs.declared.SystemEvent.{SystemEvent}
use Rattle.state.specs.declared.Record.{Record}
use Rattle.state.specs.declared.Stage.{Stage}
use Rattle.state.specs.declared.Stage.TheVariants as stage
use Rattle.state.specs.declared.Wait.{Wait}
use Rattle.state.specs.declared.Wait.TheVariants as wait
use Rattle.state.specs.declared.Core.{Core}
use Rattle.state.specs.Update.{with_next, with_toggles, with_system_events, signalled, buffer_of, record_at, with_record}
use Rattle.state.specs.Ranges.{live, is_control, toggles_fit, out_side, is_unused}
use Rattle.state.specs.Served.{serves_out, serves_in}
use Rattle.state.specs.Sound.{DataWait, AcknowledgeWait, WaitSound, Sound}
use Rattle.state.proofs.Kept.{as_live}
use Rattle.state.proofs.Updates.{record_given}
use Rattle.bus.specs.declared.active.Direction.TheVariants.{Out, In}
use Rattle.bus.specs.declared.token.Asks.{Asks}
use Rattle.bus.specs.declared.token.Asks.TheVariants as asks
use Rattle.bus.specs.declared.turn.Says.{Says}
use Rattle.bus.specs.declared.turn.Says.TheVariants.{Silence, Ack, Nak, Stall}
use Rattle.bus.specs.declared.turn.Turn.{Turn}
use Rattle.bus.specs.declared.turn.Step.{Step}
use Rattle.bus.specs.Turn.{saying, noting, placed}
use Rattle.bus.specs.Active.{chosen, active, filled, flipped_in, acknowledged}
use Rattle.bus.specs.Tokens.{direction_of, on_out, on_setup, on_ping, count_of, sending, on_in, turn_of}
use Rattle.bus.specs.Data.{flipped_out, marked, taken, taking, after_out, setting_up, after_setup, staged, data_turn}
use Rattle.bus.specs.Idle.{no_wait}
use Rattle.bus.specs.Arrival.{missed, data_step, packet_step, run_out, timed_out}
use Rattle.bus.proofs.Sizes.{control_least}
use Rattle.bus.proofs.Moved.{Moved, moved_same, moved_condition, moved_next, moved_events, moved_toggles, filled_moved, advanced_moved, flip_out_fits, flip_in_fits, same_records, placed_sound}
use Rattle.bus.proofs.Serving.{Serving, awaiting, its_sound, stays, out_chosen, control_out, in_sender, sends_left}
use Rattle.bus.proofs.Turns.{choice, ping_by, setup_by, in_by, after_setup_by, after_out_by}
use Rattle.bus.proofs.Cases.{data_by, no_wait_by, packet_by}

-- ---- the record's turn

-- a turn that moves the record, and leaves a wait that is sound
pub record Turned (core : Core) (i : ℕ) (t : Turn) : Type 0 where
  pub moved : Moved core.memory_size core.speed (record_at core i) t.after
  pub wait_sound : WaitSound (with_record core i t.after) t.wait

module _ (core : Core) (w : Sound core) (i : ℕ) where
  abbrev M : ℕ
  M = core.memory_size

  abbrev r : Record
  r = record_at core i

  at : i < 16 → i < length core.records
  at h = omega (arith, h, w.sixteen)

  -- a turn that leaves no wait
  idle : (q : Record) (says : Says) → Moved M core.speed r q → Turned core i (saying q says)
  idle q says m = record { moved = m; wait_sound = tt }

  module _ (v : Serving core i Out) where
    same : Moved M core.speed r r
    same = stays core w i Out v

    noted_turn : (event : RecordEvent) → Turned core i (noting r event)
    noted_turn event = idle _ Silence (moved_events M core.speed r r same _)

    -- the record waited on is the one that stands there
    data_wait : (stage : Stage) → DataWait r stage → WaitSound (with_record core i r) (wait.Data i stage)
    data_wait stage d = (v.index, subst (λ (q : Record). DataWait q stage) (sym (record_given core i r (at v.index))) d)

    out_turn : Turned core i (on_out i r)
    out_turn = record { moved = same; wait_sound = data_wait stage.Out (record { is_live = v.is_live; out_side_served = v.side; stage_fitting = refl }) }

    setup_turn : Turned core i (on_setup i r)
    setup_turn =
        setup_by r (Turned core i) i
        (record {
          at_control = λ c. record { moved = same; wait_sound = data_wait stage.Setup (record { is_live = v.is_live; out_side_served = v.side; stage_fitting = c }) };
          elsewhere = noted_turn OutOfPlace;
        })

    ping_turn : Turned core i (on_ping r)
    ping_turn =
        ping_by r (Turned core i)
        (record { at_interrupt = noted_turn OutOfPlace; ping_stall = idle r Stall same; ping_ack = λ a. idle r Ack same; ping_nak = λ a. idle r Nak same })

    -- ---- data awaited

    filled_turn : (n : ℕ) → n ≤ r.endpoint.maximum → (second : Bool) → out_side r.endpoint.kind second ≡ true → is_unused (buffer_of r second) ≡ true → Moved M core.speed r (filled r second n)
    filled_turn n h second o u = filled_moved M core.speed r r same second n h o u

    flipped_moved : (q : Record) → Moved M core.speed r q → Moved M core.speed r (flipped_out q)
    flipped_moved q m =
        moved_toggles M core.speed r q m (record { out_side = not q.toggles.out_side; in_side = q.toggles.in_side })
        (flip_out_fits q.endpoint.kind q.toggles (ap (λ (p : Endpoint). serves_out p.kind) m.same_endpoint ∙ v.side) m.sound.toggles_fitting)

    marked_moved : (q : Record) (n : ℕ) → Moved M core.speed r q → Moved M core.speed r (marked q n)
    unfolding marked
    marked_moved q n m = choice (Moved M core.speed r) (ltb n q.endpoint.maximum) _ _ (λ e. moved_events M core.speed r q m _) (λ e. m)

    taken_turn : (n : ℕ) → n ≤ r.endpoint.maximum → active Out r ≡ true → Turned core i (taking core.speed r n)
    unfolding taking taken active
    taken_turn n h a =
        record {
          moved = marked_moved (flipped_out (filled r (chosen Out r) n)) n (flipped_moved (filled r (chosen Out r) n) (filled_turn n h (chosen Out r) (out_chosen r v.side) a));
          wait_sound = tt;
        }

    after_out_turn : (toggle : Bool) (n : ℕ) → Turned core i (after_out core.speed r toggle n)
    after_out_turn toggle n =
        after_out_by r (Turned core i) toggle n core.speed
        (record {
          out_stall = idle r Stall same;
          out_repeat = λ e. idle r Ack same;
          out_no_buffer = λ e. idle r Nak same;
          out_too_long = λ e. idle r Nak same;
          out_take = taken_turn n;
        })

    module _ (c : is_control r.endpoint.kind ≡ true) where
      any_toggles : (k : Kind) → is_control k ≡ true → (t : Toggles) → toggles_fit k t ≡ true
      any_toggles kind.Control e t = refl
      any_toggles kind.In e t = absurd (false≢true e)
      any_toggles kind.Out e t = absurd (false≢true e)

      set_up_turn : (n : ℕ) → n ≡ 8 → is_unused (buffer_of r false) ≡ true → Turned core i (setting_up r n)
      unfolding setting_up
      set_up_turn n e u =
          record {
            moved = moved_condition M core.speed r (with_toggles (filled r false n) both_data1) (moved_toggles M core.speed r (filled r false n) m both_data1 (any_toggles (filled r false n).endpoint.kind (ap (λ (p : Endpoint). is_control p.kind) m.same_endpoint ∙ c) both_data1)) Normal refl;
            wait_sound = tt;
          }
        where
          both_data1 : Toggles
          both_data1 = record { out_side = true; in_side = true }

          m : Moved M core.speed r (filled r false n)
          m = let k = control_least core.speed r.endpoint (its_sound core w i Out v).endpoint_fitting c in filled_turn n (omega (arith, k, e)) false (control_out r.endpoint.kind c) u

      after_setup_turn : (toggle : Bool) (n : ℕ) → Turned core i (after_setup r toggle n)
      after_setup_turn toggle n =
          after_setup_by r (Turned core i) toggle n (record { setup_taken = set_up_turn n; not_taken = noted_turn NotTaken })

    staged_turn : (s : Stage) → DataWait r s → (toggle : Bool) (n : ℕ) → Turned core i (staged core.speed s r toggle n)
    staged_turn stage.Setup d toggle n = after_setup_turn d.stage_fitting toggle n
    staged_turn stage.Out d toggle n = after_out_turn toggle n

    data_turn_lem : (s : Stage) → DataWait r s → (x : Option pid.Kind) (n : ℕ) → Turned core i (data_turn core.speed s r x n)
    data_turn_lem s d x n =
        data_by core.speed s r x n (Turned core i)
        (record { not_good = noted_turn NotGood; out_of_place = noted_turn OutOfPlace; in_stage = λ toggle e. staged_turn s d toggle n })

  -- ---- IN, and its acknowledge

  module _ (v : Serving core i In) where
    same_in : Moved M core.speed r r
    same_in = stays core w i In v

    sending_turn : active In r ≡ true → Turned core i (sending i r)
    unfolding sending active
    sending_turn a =
        record {
          moved = moved_next M core.speed r r same_in (chosen In r);
          wait_sound = (v.index, subst (λ (q : Record). AcknowledgeWait q (chosen In r) (count_of r)) (sym (record_given core i (with_next r (chosen In r)) (at v.index))) now);
        }
      where
        now : AcknowledgeWait (with_next r (chosen In r)) (chosen In r) (count_of r)
        now =
            record {
              is_live = v.is_live;
              in_side_served = v.side;
              sent_from = in_sender r;
              sent_so_many = sends_left r.endpoint.maximum (buffer_of r (chosen In r)) a;
            }

    in_turn : Turned core i (on_in i r)
    in_turn =
        in_by r (Turned core i) i (record { in_stall = idle r Stall same_in; in_nak = λ a. idle r Nak same_in; in_send = sending_turn })

  acknowledged_turn : (second : Bool) (sent : ℕ) → WaitSound core (wait.Acknowledge i second sent) → Turned core i (acknowledged r second sent)
  unfolding acknowledged
  acknowledged_turn second sent s =
      idle _ Silence
      (advanced_moved M core.speed r (flipped_in r)
      (moved_toggles M core.speed r r (stays core w i In v) _ (flip_in_fits r.endpoint.kind r.toggles v.side (its_sound core w i In v).toggles_fitting))
      second sent (sender_side r.endpoint.kind v.side s.1.sent_from) s.1.sent_so_many)
    where
      v : Serving core i In
      v = record { index = s.0; is_live = s.1.is_live; side = s.1.in_side_served }

      sender_side : (k : Kind) → serves_in k ≡ true → second ≡ (is_control k || r.next) → out_side k second ≡ false
      sender_side kind.Control p e = ap not e
      sender_side kind.In p e = refl
      sender_side kind.Out p e = absurd (false≢true p)

  turn : (a : Asks) → Serving core i (direction_of a) → Turned core i (turn_of a i r)
  turn asks.Out v = out_turn v
  turn asks.Setup v = setup_turn v
  turn asks.Ping v = ping_turn v
  turn asks.In v = in_turn v

-- ---- the core's step

module _ (core : Core) (w : Sound core) where
  signalled_sound : (event : SystemEvent) → Sound (with_system_events core (signalled core.events event))
  signalled_sound event =
      record {
        sixteen = w.sixteen;
        memory_within = w.memory_within;
        address_within = w.address_within;
        each_record = w.each_record;
        served_once = w.served_once;
        spans_apart = w.spans_apart;
        wait_sound = same_records core (with_system_events core (signalled core.events event)) refl core.wait w.wait_sound;
      }

  turned_sound : (i : ℕ) (t : Turn) → i < 16 → live (record_at core i).condition ≡ true → Turned core i t → Sound (placed core i t).core
  turned_sound i t h l x = placed_sound core w i h t l x.moved x.wait_sound

  pub no_wait_sound : (p : List ℕ) → Sound (no_wait core p).core
  no_wait_sound p =
      no_wait_by core p (λ (x : Step). Sound x.core) w
      (record {
        quiet = w;
        trouble = signalled_sound;
        frame = λ n. w;
        token = λ a i e v. turned_sound i (turn_of a i (record_at core i)) v.index v.is_live (turn core w i a v);
      })

  -- ---- the wait

  missed_sound : (i : ℕ) → i < 16 → live (record_at core i).condition ≡ true → Sound (missed core i)
  unfolding missed
  missed_sound i h l =
      placed_sound core w i h (noting (record_at core i) WaitEnded) l
      (moved_events core.memory_size core.speed (record_at core i) (record_at core i) (moved_same core.memory_size core.speed (record_at core i) (as_live (record_at core i).condition core.memory_size core.speed (record_at core i) l (w.each_record i h)) l) _)
      tt

  pub timeout_sound : Sound (timed_out core)
  unfolding timed_out
  timeout_sound = go core.wait w.wait_sound
    where
      go : (v : Wait) → WaitSound core v → Sound (run_out v core)
      go wait.Nothing s = w
      go (wait.Data i s) x = missed_sound i x.0 x.1.is_live
      go (wait.Acknowledge i b n) x = missed_sound i x.0 x.1.is_live

pub packet_step_sound : (core : Core) → Sound core → (p : List ℕ) → Sound (packet_step core p).core
unfolding data_step
packet_step_sound core w p =
    packet_by core p (λ (x : Step). Sound x.core) w
    (record {
      awaited_data = λ i s e d x. turned_sound core w i _ x.0 x.1.is_live (data_turn_lem core w i (awaiting core i s x) s x.1 (verdict_of p) (length (payload_of p)));
      awaited_ack = λ i b n e a x. turned_sound core w i _ x.0 x.1.is_live (acknowledged_turn core w i b n x);
      idle = λ e. no_wait_sound (timed_out core) (timeout_sound core w) p;
    })
