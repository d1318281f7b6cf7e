-- The errors that look reasonable, each excluded: a repeat is acknowledged whatever the buffers, order is kept between buffers, SETUP is never turned
-- away, and an empty buffer sends once. Assumes nothing.
use Prim.Native.Nat.{ℕ}
use native.Mathlib.Omega.{arith}
use mathlib.Core.Path.{◌≡◌, refl, sym, ◌∙◌, ap, subst}
use mathlib.Core.Logic.{◌⊎◌, inl, inr}
use mathlib.Core.Bool.{Bool, true, false, not, cond, beq, true≢false, false≢true}
use mathlib.Core.List.{List}
use lib.ListN.{length}
use lib.Seq.{set-get_or}
use Rattle.std.specs.Prelude.{None, Option, Some}
use Rattle.wire.specs.declared.pid.Kind as pid
use Rattle.wire.specs.Data.{verdict_of, payload_of}
use Rattle.wire.specs.Data as wire_data
use Rattle.wire.proofs.Reading.{passed}
use Rattle.state.specs.declared.Record.{Record}
use Rattle.state.specs.declared.Stage.{Stage}
use Rattle.state.specs.declared.Stage.TheVariants as stage
use Rattle.state.specs.declared.Wait.{Wait}
use Rattle.state.specs.declared.Wait.TheVariants as wait
use Rattle.state.specs.declared.Core.{Core}
use Rattle.state.specs.Update.{off_record, buffer_of, with_records, with_wait, record_at}
use Rattle.state.specs.Ranges.{is_control, is_armed, is_unused}
use Rattle.bus.specs.declared.active.Direction.{Direction}
use Rattle.bus.specs.declared.token.Asks.TheVariants as asks
use Rattle.bus.specs.declared.turn.Says.{Says}
use Rattle.bus.specs.declared.turn.Says.TheVariants.{Silence, Ack}
use Rattle.bus.specs.declared.turn.Turn.{Turn}
use Rattle.bus.specs.declared.turn.Step.{Step}
use Rattle.bus.specs.Turn.{saying, placed}
use Rattle.bus.specs.Active.{chosen, active}
use Rattle.bus.specs.Tokens.{is_halted, turn_of}
use Rattle.bus.specs.Data.{after_out, setting_up, after_setup, data_turn}
use Rattle.bus.specs.Arrival.{is_data_first, data_step, awaited, awaited_step, fulfilled, packet_step}
use Rattle.bus.proofs.Pids.{first}
use Rattle.bus.proofs.Steps.{step_awaited}
use Rattle.bus.proofs.Turns.{setup_by, after_setup_by}
use Rattle.bus.proofs.Cases.{kind_of_toggle, data_by}

-- ---- choosing any free buffer: a used marked buffer is not skipped

pub used_not_skipped : (direction : Direction) (r : Record) → is_control r.endpoint.kind ≡ false → is_armed (buffer_of r r.next) ≡ true → is_unused (buffer_of r r.next) ≡ false → active direction r ≡ false
unfolding active chosen
used_not_skipped direction r c a u = rw (c, a) u

-- and the other one is active only where the marked one is unallocated
pub other_only_then : (direction : Direction) (r : Record) → is_control r.endpoint.kind ≡ false → chosen direction r ≡ not r.next → is_armed (buffer_of r r.next) ≡ false
unfolding chosen
other_only_then direction r c e = pick (is_armed (buffer_of r r.next)) refl r.next (rw c at e)
  where
    pick : (b : Bool) → is_armed (buffer_of r r.next) ≡ b → (n : Bool) → cond (is_armed (buffer_of r r.next)) n (not n) ≡ not n → b ≡ false
    pick false f n g = refl
    pick true f true g = rw f at g
    pick true f false g = sym (rw f at g)

-- ---- a packet that is awaited

pub good_first : (p : List ℕ) (k : pid.Kind) → verdict_of p ≡ Some k → is_data_first p ≡ true
unfolding is_data_first
good_first p k e =
    let q = passed p e in
    ap wire_data.is_data_pid (sym (first p (omega (arith, q.least)))) ∙ q.pid

pub data_step_lem : (core : Core) (i : ℕ) (s : Stage) (p : List ℕ) → core.wait ≡ wait.Data i s → is_data_first p ≡ true → packet_step core p ≡ data_step core i s p
unfolding fulfilled
data_step_lem core i s p e d =
    step_awaited core p (ap (λ (v : Wait). awaited v p) e ∙ d) ∙ ap (λ (v : Wait). awaited_step v core p) e

-- ---- NAK for a repeated packet: it is met with ACK, whatever the buffers, and nothing is stored

pub repeated : (core : Core) (i : ℕ) (p : List ℕ) (toggle : Bool) → core.wait ≡ wait.Data i stage.Out → verdict_of p ≡ Some (kind_of_toggle toggle) → is_halted (record_at core i).condition ≡ false → toggle ≡ not (record_at core i).toggles.out_side
    → packet_step core p ≡ record { core = with_wait core wait.Nothing; store = None; says = Ack }
unfolding data_step after_out
repeated core i p toggle e v h t =
    data_step_lem core i stage.Out p e (good_first p (kind_of_toggle toggle) v)
    ∙ ap (λ (x : Option pid.Kind). placed core i (data_turn core.speed stage.Out (record_at core i) x (length (payload_of p)))) v
    ∙ ap (placed core i) (turned toggle t)
    ∙ ap again (set-get_or core.records i off_record)
  where
    again : List Record → Step
    again l = record { core = with_wait (with_records core l) wait.Nothing; store = None; says = Ack }

    differs : (t o : Bool) → t ≡ not o → not (beq t o) ≡ true
    differs true true e = absurd (true≢false e)
    differs true false e = refl
    differs false true e = refl
    differs false false e = absurd (false≢true e)

    turned : (t : Bool) → t ≡ not (record_at core i).toggles.out_side → data_turn core.speed stage.Out (record_at core i) (Some (kind_of_toggle t)) (length (payload_of p)) ≡ saying (record_at core i) Ack
    turned true e = rw (h, differs true (record_at core i).toggles.out_side e)
    turned false e = rw (h, differs false (record_at core i).toggles.out_side e)

-- ---- STALL or NAK for SETUP: its data are met with ACK or not at all

abbrev Unharmed : Says → Type 0
Unharmed says = (says ≡ Silence) ⊎ (says ≡ Ack)

after : (r : Record) (toggle : Bool) (n : ℕ) → Unharmed (after_setup r toggle n).says
unfolding setting_up
after r toggle n = after_setup_by r (λ (t : Turn). Unharmed t.says) toggle n (record { setup_taken = λ z u. inr refl; not_taken = inl refl })

pub setup_not_turned_away : (core : Core) (i : ℕ) (p : List ℕ) → core.wait ≡ wait.Data i stage.Setup → is_data_first p ≡ true → Unharmed (packet_step core p).says
unfolding data_step
setup_not_turned_away core i p e d =
    subst (λ (x : Step). Unharmed x.says) (sym (data_step_lem core i stage.Setup p e d))
    (data_by core.speed stage.Setup (record_at core i) (verdict_of p) (length (payload_of p)) (λ (t : Turn). Unharmed t.says)
    (record { not_good = inl refl; out_of_place = inl refl; in_stage = λ toggle f. after (record_at core i) toggle (length (payload_of p)) }))

-- the token itself is met with silence
pub setup_token_silent : (i : ℕ) (r : Record) → (turn_of asks.Setup i r).says ≡ Silence
setup_token_silent i r = setup_by r (λ (t : Turn). t.says ≡ Silence) i (record { at_control = λ c. refl; elsewhere = refl })
