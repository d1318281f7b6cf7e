-- The cases of demand 2 hold of document 01's core: each is one row of its list, and what is heard is what the row says. Assumes nothing.
use Prim.Native.Nat.{ℕ, ◌≤◌}
use mathlib.Core.Path.{◌≡◌, refl, ◌∙◌, ap}
use mathlib.Core.Bool.{Bool, true, false}
use mathlib.Core.List.{List}
use lib.ListN.{length}
use borrow.Author.Tests.{le-ltb}
use Rattle.std.specs.Prelude.{Option, Some, None}
use Rattle.wire.specs.declared.pid.Kind.{Kind}
use Rattle.wire.specs.Pid.{pid_byte}
use Rattle.wire.specs.Data.{verdict_of, payload_of}
use Rattle.state.specs.declared.Speed.{Speed}
use Rattle.state.specs.declared.Record.{Record}
use Rattle.state.specs.declared.Stage.{Stage}
use Rattle.state.specs.declared.Stage.TheVariants as stage
use Rattle.state.specs.declared.Wait.TheVariants as wait
use Rattle.state.specs.declared.Core.{Core}
use Rattle.state.specs.Update.{record_at}
use Rattle.bus.specs.declared.active.Direction.TheVariants.{Out}
use Rattle.bus.specs.declared.turn.Says.{Says}
use Rattle.bus.specs.declared.turn.Says.TheVariants.{Nak}
use Rattle.bus.specs.declared.turn.Step.{Step}
use Rattle.bus.specs.Turn.{stored, said, saying, placed}
use Rattle.bus.specs.Active.{active}
use Rattle.bus.specs.Tokens.{is_halted}
use Rattle.bus.specs.Data.{acceptance, taken, taking, after_out, staged, sequenced, data_turn}
use Rattle.bus.specs.Arrival.{is_data_first, data_step, packet_step}
use Rattle.bus.proofs.Turns.{accepted_by}
use Rattle.bus.proofs.Cases.{kind_of_toggle}
use Rattle.bus.proofs.Errors.{good_first, data_step_lem}
use Rattle.demands.specs.Behaviour.{Lent, Outcome, the_core}
use Rattle.demands.specs.Demand2.{is_acceptance, toggle_pid, InTurn, StoreCase, NakCase, NotGoodCase}
use Rattle.demands.proofs.Spared.{toggle_stays}
use Rattle.demands.proofs.BusCalls.{not_refused, bytes_of, brought, call_accepted, heard_accepted, memory_accepted}

-- ---- the rows after OUT

module _ (speed : Speed) (r : Record) (n : ℕ) (running : is_halted r.condition ≡ false) where
  takes : active Out r ≡ true → n ≤ r.endpoint.maximum → after_out speed r r.toggles.out_side n ≡ taking speed r n
  unfolding after_out
  takes a h = rw (running, toggle_stays r.toggles.out_side, a, le-ltb r.endpoint.maximum n h)

  no_buffer : active Out r ≡ false → after_out speed r r.toggles.out_side n ≡ saying r Nak
  unfolding after_out
  no_buffer a = rw (running, toggle_stays r.toggles.out_side, a)

in_stage : (speed : Speed) (s : Stage) (r : Record) (toggle : Bool) (n : ℕ) → sequenced speed s r (kind_of_toggle toggle) n ≡ staged speed s r toggle n
in_stage speed s r true n = refl
in_stage speed s r false n = refl

-- data awaited, and the verdict known
by_verdict : (core : Core) (i : ℕ) (s : Stage) (p : List ℕ) (v : Option Kind) → core.wait ≡ wait.Data i s → is_data_first p ≡ true → verdict_of p ≡ v → packet_step core p ≡ placed core i (data_turn core.speed s (record_at core i) v (length (payload_of p)))
unfolding data_step
by_verdict core i s p v e d f =
    data_step_lem core i s p e d ∙ ap (λ (x : Option Kind). placed core i (data_turn core.speed s (record_at core i) x (length (payload_of p)))) f

module _ (core : Core) (lent : Lent) (i : ℕ) (p : List ℕ) (t : InTurn core lent i p) where
  abbrev r : Record
  r = record_at core i

  step : packet_step core p ≡ placed core i (after_out core.speed r r.toggles.out_side (length (payload_of p)))
  step =
      by_verdict core i stage.Out p (Some (toggle_pid r)) t.waits (good_first p (toggle_pid r) t.under_toggle) t.under_toggle
      ∙ ap (placed core i) (in_stage core.speed stage.Out r r.toggles.out_side (length (payload_of p)))

-- ---- the cases

-- what a stored payload is met with
pub accepts : (speed : Speed) (q : Record) (memory : List ℕ) → is_acceptance (said (acceptance speed q) memory) ≡ true
unfolding pid_byte
accepts speed q memory = accepted_by (λ (s : Says). is_acceptance (said s memory) ≡ true) refl refl speed q

pub store_case : StoreCase the_core
unfolding taking
store_case core lent i p t a h =
    let z = not_refused core lent t.sound t.lent_whole in
    let e = step core lent i p t ∙ ap (placed core i) (takes core.speed (record_at core i) (length (payload_of p)) t.not_halted a h) in (
      ap is_acceptance (heard_accepted core lent p z ∙ ap (λ (x : Step). bytes_of x (payload_of p) lent.memory) e) ∙ accepts core.speed (taken (record_at core i) (length (payload_of p))) _,
      memory_accepted core lent p z ∙ ap (λ (x : Step). stored x.store (payload_of p) lent.memory) e,
    )

pub nak_case : NakCase the_core
nak_case core lent i p t a =
    let z = not_refused core lent t.sound t.lent_whole in
    let e = step core lent i p t ∙ ap (placed core i) (no_buffer core.speed (record_at core i) (length (payload_of p)) t.not_halted a) in (
      heard_accepted core lent p z ∙ ap (λ (x : Step). bytes_of x (payload_of p) lent.memory) e,
      memory_accepted core lent p z ∙ ap (λ (x : Step). stored x.store (payload_of p) lent.memory) e,
    )

pub not_good_case : NotGoodCase the_core
not_good_case core lent i s p w l e d v =
    let c = call_accepted core lent p (not_refused core lent w l) ∙ ap (λ (x : Step). brought x (payload_of p) lent) (by_verdict core i s p None e d v) in
    (ap (λ (o : Outcome). o.answer) c, ap (λ (o : Outcome). o.lent) c)
