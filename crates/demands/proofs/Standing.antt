-- A payload that the core says it took stands in the memory from the place of the active buffer. Assumes nothing.
use Prim.Native.Nat.{ℕ}
use mathlib.Core.Path.{◌≡◌, refl, sym, ◌∙◌, ap, subst}
use mathlib.Core.Logic.{inl, inr}
use mathlib.Core.Bool.{Bool, true, false, ◌&&◌, beq, false≢true, true≢false}
use mathlib.Core.List.{List}
use lib.Dec.{eqb}
use lib.ListN.{length, take, drop}
use borrow.Author.Tests.{eqb-true}
use Rattle.std.specs.Prelude.{Some, Result, Ok, Err}
use Rattle.std.specs.Cmp.{booleans_Decides}
use Rattle.laws.proofs.Bools.{both}
use Rattle.refusals.specs.declared.Refusal.{Refusal}
use Rattle.wire.specs.Data.{verdict_of, payload_of}
use Rattle.state.specs.declared.Stage.{Stage}
use Rattle.state.specs.declared.Wait.TheVariants as wait
use Rattle.state.specs.declared.Core.{Core}
use Rattle.state.specs.Update.{buffer_of, record_at}
use Rattle.state.specs.Sound.{WaitSound, Sound}
use Rattle.bus.specs.declared.active.Direction.TheVariants.{Out}
use Rattle.bus.specs.declared.turn.Turn.{Turn}
use Rattle.bus.specs.declared.turn.Step.{Step}
use Rattle.bus.specs.Active.{chosen, chosen_buffer, place_of}
use Rattle.bus.specs.Data.{data_turn}
use Rattle.bus.specs.Arrival.{is_data_first, data_step, packet_step}
use Rattle.bus.specs.Calls.{lend_refusal}
use Rattle.bus.proofs.Errors.{data_step_lem}
use Rattle.bus.proofs.Stretches.{bytes_there, stored_call}
use Rattle.demands.specs.Behaviour.{Lent, Packet, Outcome, heard, the_core}
use Rattle.demands.specs.Demand2.{is_acceptance}
use Rattle.demands.specs.History.{is_good_as, expected, stores}
use Rattle.demands.proofs.BusCalls.{bytes_of, heard_accepted, heard_refused}
use Rattle.demands.proofs.Taking.{Accounted, accounted}
use Rattle.demands.proofs.Gains.{unread}

module _ (core : Core) (w : Sound core) (lent : Lent) (i : ℕ) (s : Stage) (p : List ℕ) where
  abbrev o : Outcome
  o = the_core core lent (Packet p)

  module _ (e : core.wait ≡ wait.Data i s) (good : is_good_as (expected s (record_at core i)) (verdict_of p) ≡ true) where
    data_first : is_data_first p ≡ true
    data_first = pick (is_data_first p) refl
      where
        pick : (b : Bool) → is_data_first p ≡ b → b ≡ true
        pick true f = refl
        pick false f = absurd (true≢false (sym good ∙ unread p f (expected s (record_at core i))))

    abbrev turn : Turn
    turn = data_turn core.speed s (record_at core i) (verdict_of p) (length (payload_of p))

    -- the step's answer says that the payload was taken, so it is stored
    store_place : is_acceptance (bytes_of (packet_step core p) (payload_of p) lent.memory) ≡ true → (packet_step core p).store ≡ Some (place_of (chosen_buffer Out (record_at core i)))
    unfolding data_step
    store_place a =
        ap (λ (x : Step). x.store) (data_step_lem core i s p e data_first)
        ∙ go (accounted (record_at core i) (verdict_of p) (length (payload_of p)) core.speed s (subst (WaitSound core) e w.wait_sound).1.stage_fitting)
      where
        said_so : is_acceptance (bytes_of (data_step core i s p) (payload_of p) lent.memory) ≡ true
        said_so = subst (λ (x : Step). is_acceptance (bytes_of x (payload_of p) lent.memory) ≡ true) (data_step_lem core i s p e data_first) a

        go : Accounted (record_at core i) s (verdict_of p) (length (payload_of p)) turn → turn.store ≡ Some (place_of (chosen_buffer Out (record_at core i)))
        go (inl x) = x.place
        go (inr x) =
            absurd (true≢false (sym (ap (λ (b : Bool). b && is_acceptance (bytes_of (data_step core i s p) (payload_of p) lent.memory)) good ∙ said_so) ∙ x.not_told _))

    stands_here : is_acceptance (heard o) ≡ true → take (length (payload_of p)) (drop (place_of (chosen_buffer Out (record_at core i))) o.lent.memory) ≡ payload_of p
    stands_here a = pick (lend_refusal core lent.memory lent.reply) refl
      where
        place : ℕ
        place = place_of (chosen_buffer Out (record_at core i))

        pick : (r : Result Unit Refusal) → lend_refusal core lent.memory lent.reply ≡ r → take (length (payload_of p)) (drop place o.lent.memory) ≡ payload_of p
        pick (Ok done) z =
            let c = stored_call core lent.memory lent.reply p place z (store_place (ap is_acceptance (sym (heard_accepted core lent p z)) ∙ a)) in
            ap (λ (l : List ℕ). take (length (payload_of p)) (drop place l)) c.0 ∙ bytes_there lent.memory (payload_of p) place c.1
        pick (Err why) f = absurd (false≢true (ap is_acceptance (sym (heard_refused core lent p why f)) ∙ a))

-- ---- in the words of the history

pub stands : (core : Core) → Sound core → (lent : Lent) (i : ℕ) (second : Bool) (j : ℕ) (at : Stage) (p : List ℕ) → let o = the_core core lent (Packet p) in core.wait ≡ wait.Data j at → stores i second core j at p (heard o) ≡ true → take (length (payload_of p)) (drop (place_of (buffer_of (record_at core i) second)) o.lent.memory) ≡ payload_of p
stands core w lent i second j at p e f =
    let o = the_core core lent (Packet p) in
    let a = both (eqb j i && beq second (chosen Out (record_at core i)) && is_good_as (expected at (record_at core i)) (verdict_of p)) (is_acceptance (heard o)) f in
    let b = both (eqb j i && beq second (chosen Out (record_at core i))) (is_good_as (expected at (record_at core i)) (verdict_of p)) a.0 in
    let c = both (eqb j i) (beq second (chosen Out (record_at core i))) b.0 in
    subst (λ (k : Bool). take (length (payload_of p)) (drop (place_of (buffer_of (record_at core i) k)) o.lent.memory) ≡ payload_of p) (sym ((booleans_Decides second (chosen Out (record_at core i))).0 c.1))
    (stands_here core w lent i at p (e ∙ ap (λ (m : ℕ). wait.Data m at) (eqb-true j i c.0)) b.1 a.1)
