-- Where the core awaits ACK, the length that it names is that of the payload it sent last. Assumes nothing.
use Prim.Native.Nat.{ℕ, ◌+◌, ◌≤◌}
use native.Mathlib.Omega.{arith}
use mathlib.Core.Path.{◌≡◌, refl, sym, ◌∙◌, ap, subst}
use mathlib.Core.Bool.{Bool, cond}
use mathlib.Core.List.{List}
use lib.ListN.{length, length-take, length-drop}
use borrow.Author.Tests.{le-leb}
use Rattle.std.specs.Prelude.{Option, Ok}
use Rattle.wire.specs.declared.pid.Kind.{Kind}
use Rattle.wire.specs.Data.{stretch, verdict_of, payload_of}
use Rattle.state.specs.declared.Speed.{Speed}
use Rattle.state.specs.declared.Record.{Record}
use Rattle.state.specs.declared.Stage.{Stage}
use Rattle.state.specs.declared.Stage.TheVariants as stage
use Rattle.state.specs.declared.Wait.{Wait}
use Rattle.state.specs.declared.Wait.TheVariants.{Nothing, Data, Acknowledge}
use Rattle.state.specs.declared.Core.{Core}
use Rattle.state.specs.Update.{record_at}
use Rattle.state.specs.Sound.{Sound}
use Rattle.bus.specs.declared.active.Direction.TheVariants.{In}
use Rattle.bus.specs.declared.token.Asks.{Asks}
use Rattle.bus.specs.declared.token.Asks.TheVariants as asks
use Rattle.bus.specs.declared.turn.Says.TheVariants as says
use Rattle.bus.specs.declared.turn.Turn.{Turn}
use Rattle.bus.specs.declared.turn.Step.{Step}
use Rattle.bus.specs.Turn.{data_pid, said, stored}
use Rattle.bus.specs.Active.{chosen_buffer, place_of, acknowledged}
use Rattle.bus.specs.Tokens.{count_of, sending, turn_of}
use Rattle.bus.specs.Data.{taking, setting_up, staged, data_turn}
use Rattle.bus.specs.Idle.{no_wait}
use Rattle.bus.specs.Answers.{SaysWithin}
use Rattle.bus.specs.Arrival.{data_step, timed_out, packet_step}
use Rattle.bus.specs.Calls.{lend_refusal}
use Rattle.bus.proofs.Laying.{sent_length}
use Rattle.bus.proofs.Turns.{ping_by, setup_by, in_by, after_setup_by, after_out_by}
use Rattle.bus.proofs.Cases.{data_by, no_wait_by, packet_by}
use Rattle.bus.proofs.KeepsSound.{timeout_sound}
use Rattle.bus.proofs.Within.{says_within}
use Rattle.bus.proofs.Lent as lending
use Rattle.demands.specs.Behaviour.{Lent, Packet, Outcome, heard, the_core}
use Rattle.demands.specs.History.{sent_by}
use Rattle.demands.proofs.BusCalls.{bytes_of, call_accepted, heard_accepted}
use Rattle.demands.proofs.Late.{timeout_waits_not}

-- the length whose ACK is awaited is that of these bytes
abbrev pub Outstanding : Wait → List ℕ → Type 0
Outstanding Nothing sent = Unit {0}
Outstanding (Data j s) sent = Unit {0}
Outstanding (Acknowledge j buffer n) sent = length sent ≡ n

pub none_outstanding : (v : Wait) (sent : List ℕ) → v ≡ Nothing → Outstanding v sent
none_outstanding v sent e = subst (λ (x : Wait). Outstanding x sent) (sym e) tt

-- ---- the payload of a packet that is sent

stretch_length : (bytes : List ℕ) (n : ℕ) → length bytes ≡ n + 3 → length (stretch bytes) ≡ n
unfolding stretch
stretch_length bytes n e = simp (length-take, length-drop) (omega (arith, e))

sent_so_many : (toggle : Bool) (from count : ℕ) (memory sent : List ℕ) → from + count ≤ length memory → length (sent_by (said (says.Data toggle from count) memory) sent) ≡ count
sent_so_many toggle from count memory sent h =
    let n = sent_length (data_pid toggle) memory from count h in
    ap (λ (b : Bool). length (cond b (stretch bytes) sent)) (le-leb 3 (length bytes) (omega (arith, n))) ∙ stretch_length bytes count n
  where
    bytes : List ℕ
    bytes = said (says.Data toggle from count) memory

-- ---- the turns

-- data that are awaited leave no wait
module _ (speed : Speed) (r : Record) (n : ℕ) where
  staged_ends : (s : Stage) (toggle : Bool) → (staged speed s r toggle n).wait ≡ Nothing
  unfolding taking setting_up
  staged_ends stage.Setup toggle =
      after_setup_by r (λ (t : Turn). t.wait ≡ Nothing) toggle n (record { setup_taken = λ z u. refl; not_taken = refl })
  staged_ends stage.Out toggle =
      after_out_by r (λ (t : Turn). t.wait ≡ Nothing) toggle n speed
      (record {
        out_stall = refl;
        out_repeat = λ e. refl;
        out_no_buffer = λ e. refl;
        out_too_long = λ e. refl;
        out_take = λ h a. refl;
      })

  pub data_ends : (s : Stage) (v : Option Kind) → (data_turn speed s r v n).wait ≡ Nothing
  data_ends s v =
      data_by speed s r v n (λ (t : Turn). t.wait ≡ Nothing)
      (record { not_good = refl; out_of_place = refl; in_stage = λ toggle e. staged_ends s toggle })

-- ---- the step

module _ (p memory sent : List ℕ) where
  abbrev Sends : Turn → Type 0
  Sends t =
      SaysWithin t.says (length memory) → Outstanding t.wait (sent_by (said t.says (stored t.store (payload_of p) memory)) sent)

  token_sends : (r : Record) (a : Asks) (i : ℕ) → Sends (turn_of a i r)
  unfolding sending
  token_sends r asks.Out i = λ x. tt
  token_sends r asks.Setup i = setup_by r Sends i (record { at_control = λ c x. tt; elsewhere = λ x. tt })
  token_sends r asks.Ping i =
      ping_by r Sends (record { at_interrupt = λ x. tt; ping_stall = λ x. tt; ping_ack = λ a x. tt; ping_nak = λ a x. tt })
  token_sends r asks.In i =
      in_by r Sends i (record { in_stall = λ x. tt; in_nak = λ a x. tt; in_send = λ a x. sent_so_many r.toggles.in_side (place_of (chosen_buffer In r)) (count_of r) memory sent x.0 })

  abbrev Leaves : Step → Type 0
  Leaves x = SaysWithin x.says (length memory) → Outstanding x.core.wait (sent_by (bytes_of x (payload_of p) memory) sent)

  idle_leaves : (c : Core) → Sound c → c.wait ≡ Nothing → Leaves (no_wait c p)
  idle_leaves c u e =
      no_wait_by c p Leaves u
      (record {
        quiet = λ x. none_outstanding c.wait _ e;
        trouble = λ event x. none_outstanding c.wait _ e;
        frame = λ n x. none_outstanding c.wait _ e;
        token = λ a i m v. token_sends (record_at c i) a i;
      })

  step_leaves : (core : Core) → Sound core → Leaves (packet_step core p)
  unfolding data_step acknowledged
  step_leaves core w =
      packet_by core p Leaves w
      (record {
        awaited_data = λ i s e d x y. none_outstanding _ _ (data_ends core.speed (record_at core i) (length (payload_of p)) s (verdict_of p));
        awaited_ack = λ i b n e a x y. tt;
        idle = λ f. idle_leaves (timed_out core) (timeout_sound core w) (timeout_waits_not core);
      })

-- ---- the call

pub packet_sent : (core : Core) → Sound core → (lent : Lent) (p sent : List ℕ) → lend_refusal core lent.memory lent.reply ≡ Ok tt → Outstanding (the_core core lent (Packet p)).core.wait (sent_by (heard (the_core core lent (Packet p))) sent)
packet_sent core w lent p sent z =
    subst (λ (l : List ℕ). Outstanding (the_core core lent (Packet p)).core.wait (sent_by l sent)) (sym (heard_accepted core lent p z))
    (subst (λ (o : Outcome). Outstanding o.core.wait (sent_by (bytes_of (packet_step core p) (payload_of p) lent.memory) sent)) (sym (call_accepted core lent p z))
    (step_leaves p lent.memory sent core w (subst (SaysWithin (packet_step core p).says) (sym (lending.lent core lent.memory lent.reply z).whole) (says_within core w p))))
