-- A packet moves a done count exactly as the history says: by the payload that is stored, or by the length whose ACK was awaited. Assumes nothing.
use Prim.Native.Nat.{ℕ, ◌+◌}
use native.Mathlib.Nat.{add-zero}
use mathlib.Core.Path.{◌≡◌, refl, sym, ◌∙◌, ap}
use mathlib.Core.Logic.{inl, inr}
use mathlib.Core.Bool.{Bool, true, false, ◌&&◌, cond, beq, and-false, true≢false}
use mathlib.Core.List.{List}
use lib.Dec.{eqb}
use lib.ListN.{length}
use borrow.Author.Tests.{eq-eqb, ne_eqb}
use Rattle.std.specs.Prelude.{Option, Some, None, Ok}
use Rattle.wire.specs.declared.pid.Kind.{Kind}
use Rattle.wire.specs.Data.{verdict_of, payload_of}
use Rattle.state.specs.declared.Record.{Record}
use Rattle.state.specs.declared.Stage.{Stage}
use Rattle.state.specs.declared.Wait.{Wait}
use Rattle.state.specs.declared.Wait.TheVariants as wait
use Rattle.state.specs.declared.Core.{Core}
use Rattle.state.specs.Update.{buffer_of, record_at}
use Rattle.state.specs.Sound.{WaitSound, Sound}
use Rattle.bus.specs.declared.active.Direction.TheVariants.{Out}
use Rattle.bus.specs.declared.turn.Turn.{Turn}
use Rattle.bus.specs.declared.turn.Step.{Step}
use Rattle.bus.specs.Turn.{stored, said, placed}
use Rattle.bus.specs.Active.{chosen, acknowledged}
use Rattle.bus.specs.Tokens.{turn_of}
use Rattle.bus.specs.Data.{data_turn}
use Rattle.bus.specs.Idle.{no_wait}
use Rattle.bus.specs.Arrival.{is_data_first, is_ack, awaited, data_step, packet_step, timed_out}
use Rattle.bus.specs.Calls.{lend_refusal}
use Rattle.bus.proofs.Cases.{no_wait_by, packet_by}
use Rattle.bus.proofs.KeepsSound.{timeout_sound}
use Rattle.bus.proofs.Errors.{good_first}
use Rattle.demands.specs.Behaviour.{Lent, Packet, Outcome, heard, the_core}
use Rattle.demands.specs.Demand2.{is_acceptance}
use Rattle.demands.specs.History.{is_good_as, expected, stores, acknowledges}
use Rattle.demands.proofs.BusCalls.{bytes_of, call_accepted, heard_accepted}
use Rattle.demands.proofs.Counts.{done, done_in, sends_armed, acknowledged_grows, token_same, each_after, same_after, timeout_same}
use Rattle.demands.proofs.Taking.{Accounted, accounted}

-- what a packet adds to a done count, by what was awaited
abbrev pub gained : ℕ → Bool → Core → Wait → List ℕ → List ℕ → ℕ
gained i k core wait.Nothing p answered = 0
gained i k core (wait.Data j s) p answered = cond (stores i k core j s p answered) (length (payload_of p)) 0
gained i k core (wait.Acknowledge j buffer n) p answered = cond (acknowledges i k j buffer p) n 0

-- ---- the tests of the history

four_hold : (a b c d : Bool) → a ≡ true → c ≡ true → d ≡ true → (a && b && c && d) ≡ b
four_hold a true c d e f g = rw (e, f, g)
four_hold a false c d e f g = rw e

four_fail : (a b c d : Bool) → (c && d) ≡ false → (a && b && c && d) ≡ false
four_fail true true c d e = e
four_fail true false c d e = refl
four_fail false b c d e = refl

three_hold : (a b c : Bool) → a ≡ true → c ≡ true → (a && b && c) ≡ b
three_hold a true c e f = rw (e, f)
three_hold a false c e f = rw e

-- nothing is added where the test fails
unmoved : (a n : ℕ) (b : Bool) → b ≡ false → a ≡ a + cond b n 0
unmoved a n b e = sym (add-zero a) ∙ ap (λ (x : Bool). a + cond x n 0) (sym e)

pub unread : (p : List ℕ) → is_data_first p ≡ false → (k : Kind) → is_good_as k (verdict_of p) ≡ false
unread p f k = go (verdict_of p) refl
  where
    go : (v : Option Kind) → verdict_of p ≡ v → is_good_as k v ≡ false
    go None e = refl
    go (Some k') e = absurd (true≢false (sym (good_first p k' e) ∙ f))

module _ (core : Core) (i : ℕ) (k : Bool) (p answered : List ℕ) where
  not_awaited : (v : Wait) → awaited v p ≡ false → gained i k core v p answered ≡ 0
  not_awaited wait.Nothing f = refl
  not_awaited (wait.Data j s) f =
      ap (λ (b : Bool). cond b (length (payload_of p)) 0)
      (four_fail (eqb j i) (beq k (chosen Out (record_at core i))) (is_good_as (expected s (record_at core i)) (verdict_of p)) (is_acceptance answered) (ap (λ (b : Bool). b && is_acceptance answered) (unread p f (expected s (record_at core i)))))
  not_awaited (wait.Acknowledge j buffer n) f =
      ap (λ (b : Bool). cond b n 0) (ap (λ (b : Bool). eqb j i && beq k buffer && b) f ∙ and-false (eqb j i && beq k buffer))

-- ---- the step

-- with no wait nothing is counted
idle_same : (p : List ℕ) (i : ℕ) (k : Bool) (c : Core) → Sound c → done_in (no_wait c p).core i k ≡ done_in c i k
idle_same p i k c u =
    no_wait_by c p (λ (x : Step). done_in x.core i k ≡ done_in c i k) u
    (record {
      quiet = refl;
      trouble = λ event. refl;
      frame = λ number. refl;
      token = λ a j e v. same_after c u j v.index (turn_of a j (record_at c j)).after (token_same (record_at c j) a j) i k;
    })

module _ (core : Core) (w : Sound core) (p memory : List ℕ) (i : ℕ) (k : Bool) where
  abbrev Moves : Step → Type 0
  Moves x = done_in x.core i k ≡ done_in core i k + gained i k core core.wait p (bytes_of x (payload_of p) memory)

  abbrev n : ℕ
  n = length (payload_of p)

  module _ (j : ℕ) (s : Stage) (t : Turn) where
    abbrev taken_as : ℕ → Bool
    taken_as m = stores m k core j s p (said t.says (stored t.store (payload_of p) memory))

    stored_here : Accounted (record_at core j) s (verdict_of p) n t → done t.after k ≡ done_in core j k + cond (taken_as j) n 0
    stored_here (inl x) =
        x.grows k
        ∙ ap (λ (b : Bool). done_in core j k + cond b n 0) (sym (four_hold (eqb j j) (beq k (chosen Out (record_at core j))) (is_good_as (expected s (record_at core j)) (verdict_of p)) _ (eq-eqb j j refl) x.good (x.accepted _)))
    stored_here (inr x) =
        x.same k
        ∙ unmoved (done_in core j k) n (taken_as j) (four_fail (eqb j j) (beq k (chosen Out (record_at core j))) (is_good_as (expected s (record_at core j)) (verdict_of p)) _ (x.not_told _))

    stored_elsewhere : (j ≡ i → ⊥) → done_in core i k ≡ done_in core i k + cond (taken_as i) n 0
    stored_elsewhere h = unmoved (done_in core i k) n (taken_as i) (rw (ne_eqb j i h))

  data_moves : (j : ℕ) (s : Stage) → core.wait ≡ wait.Data j s → WaitSound core (wait.Data j s) → Moves (data_step core j s p)
  unfolding data_step
  data_moves j s e x =
      each_after core w j x.0 turn.after i (λ (m : ℕ) (y : Record). done y k ≡ done_in core m k + cond (taken_as j s turn m) n 0)
      (stored_here j s turn (accounted (record_at core j) (verdict_of p) n core.speed s x.1.stage_fitting))
      (stored_elsewhere j s turn)
      ∙ ap (λ (v : Wait). done_in core i k + gained i k core v p (bytes_of (placed core j turn) (payload_of p) memory)) (sym e)
    where
      turn : Turn
      turn = data_turn core.speed s (record_at core j) (verdict_of p) n

  acknowledge_moves : (j : ℕ) (buffer : Bool) (sent : ℕ) → core.wait ≡ wait.Acknowledge j buffer sent → is_ack p ≡ true → WaitSound core (wait.Acknowledge j buffer sent) → Moves (placed core j (acknowledged (record_at core j) buffer sent))
  acknowledge_moves j buffer sent e a x =
      each_after core w j x.0 turn.after i (λ (m : ℕ) (y : Record). done y k ≡ done_in core m k + cond (acknowledges m k j buffer p) sent 0)
      (acknowledged_grows (record_at core j) buffer sent (sends_armed (record_at core j).endpoint.maximum sent (buffer_of (record_at core j) buffer) x.1.sent_so_many) k ∙ ap (λ (b : Bool). done_in core j k + cond b sent 0) (sym (three_hold (eqb j j) (beq k buffer) (is_ack p) (eq-eqb j j refl) a)))
      (λ h. unmoved (done_in core i k) sent (acknowledges i k j buffer p) (rw (ne_eqb j i h)))
      ∙ ap (λ (v : Wait). done_in core i k + gained i k core v p (bytes_of (placed core j turn) (payload_of p) memory)) (sym e)
    where
      turn : Turn
      turn = acknowledged (record_at core j) buffer sent

  pub step_moves : Moves (packet_step core p)
  step_moves =
      packet_by core p Moves w
      (record {
        awaited_data = λ j s e d x. data_moves j s e x;
        awaited_ack = λ j b m e a x. acknowledge_moves j b m e a x;
        idle = λ f. idle_same p i k (timed_out core) (timeout_sound core w) ∙ timeout_same core w i k ∙ sym (add-zero (done_in core i k)) ∙ ap (λ (m : ℕ). done_in core i k + m) (sym (not_awaited core i k p _ core.wait f));
      })

-- ---- the call

module _ (core : Core) (w : Sound core) (lent : Lent) (p : List ℕ) (i : ℕ) (k : Bool) where
  abbrev o : Outcome
  o = the_core core lent (Packet p)

  pub packet_gains : lend_refusal core lent.memory lent.reply ≡ Ok tt → done_in o.core i k ≡ done_in core i k + gained i k core core.wait p (heard o)
  packet_gains z =
      ap (λ (x : Outcome). done_in x.core i k) (call_accepted core lent p z)
      ∙ step_moves core w p lent.memory i k
      ∙ ap (λ (l : List ℕ). done_in core i k + gained i k core core.wait p l) (sym (heard_accepted core lent p z))
