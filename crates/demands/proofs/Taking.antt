-- A data packet that is awaited is stored exactly where its PID is the expected one and the core answers that it took it. Assumes nothing.
use Prim.Native.Nat.{ℕ}
use mathlib.Core.Path.{◌≡◌, refl, sym, ◌∙◌, ap, subst}
use mathlib.Core.Logic.{◌⊎◌, inl, inr}
use mathlib.Core.Bool.{Bool, true, false, not, ◌&&◌, beq, and-false, false≢true}
use mathlib.Core.List.{List, [], ◌∷◌}
use lib.Dec.{ltb, eqb}
use borrow.Author.Tests.{eq-eqb, not-false}
use Rattle.std.specs.Prelude.{Option, Some, None}
use Rattle.std.specs.Cmp.{booleans_Decides}
use Rattle.laws.proofs.First.{answered}
use Rattle.wire.specs.declared.pid.Kind.{Kind}
use Rattle.wire.specs.declared.pid.Kind.TheVariants as pid
use Rattle.wire.specs.Pid.{number, pid_byte}
use Rattle.state.specs.declared.Speed.{Speed}
use Rattle.state.specs.declared.RecordEvent.{RecordEvent}
use Rattle.state.specs.declared.RecordEvent.TheVariants.{NotGood, OutOfPlace, NotTaken}
use Rattle.state.specs.declared.Record.{Record}
use Rattle.state.specs.declared.Stage.{Stage}
use Rattle.state.specs.declared.Stage.TheVariants as stage
use Rattle.state.specs.Update.{buffer_of}
use Rattle.state.specs.Ranges.{is_control, is_unused}
use Rattle.state.specs.Sound.{stage_fits}
use Rattle.bus.specs.declared.active.Direction.TheVariants.{Out}
use Rattle.bus.specs.declared.turn.Says.{Says}
use Rattle.bus.specs.declared.turn.Says.TheVariants.{Silence, Ack, Nak, Stall}
use Rattle.bus.specs.declared.turn.Turn.{Turn}
use Rattle.bus.specs.Turn.{said, saying, noting}
use Rattle.bus.specs.Active.{chosen, chosen_buffer, active, place_of}
use Rattle.bus.specs.Tokens.{is_halted}
use Rattle.bus.specs.Data.{taken, taking, after_out, setting_up, after_setup, staged, data_turn}
use Rattle.bus.proofs.Turns.{after_setup_by}
use Rattle.bus.proofs.Cases.{kind_of_toggle, data_by}
use Rattle.demands.specs.Demand2.{is_acceptance, toggle_pid}
use Rattle.demands.specs.History.{is_good_as, expected}
use Rattle.demands.proofs.DemandTwo.{accepts}
use Rattle.demands.proofs.Counts.{Grows, Same, unused_armed, filled_grows, taken_grows}

module _ (r : Record) (s : Stage) (v : Option Kind) (n : ℕ) where
  -- stored in the active buffer, and the core says so
  pub record StoredTurn (t : Turn) : Type 0 where
    pub place : t.store ≡ Some (place_of (chosen_buffer Out r))
    pub grows : Grows r t.after (chosen Out r) n
    pub good : is_good_as (expected s r) v ≡ true
    pub accepted : (memory : List ℕ) → is_acceptance (said t.says memory) ≡ true

  -- nothing is stored, and it is a repeat or the core does not say that it took it
  pub record UnstoredTurn (t : Turn) : Type 0 where
    pub nowhere : t.store ≡ None
    pub same : Same r t.after
    pub not_told : (memory : List ℕ) → (is_good_as (expected s r) v && is_acceptance (said t.says memory)) ≡ false

  abbrev pub Accounted : Turn → Type 0
  Accounted t = StoredTurn t ⊎ UnstoredTurn t

  turned_away : (q : Record) (says : Says) → Same r q → ((memory : List ℕ) → is_acceptance (said says memory) ≡ false) → Accounted (saying q says)
  turned_away q says e a =
      inr (record {
        nowhere = refl;
        same = e;
        not_told = λ memory. ap (λ (b : Bool). is_good_as (expected s r) v && b) (a memory) ∙ and-false (is_good_as (expected s r) v);
      })

  noted_only : (event : RecordEvent) → Accounted (noting r event)
  noted_only event = turned_away _ Silence (λ k. refl) (λ memory. refl)

-- ---- the toggle

-- another toggle has another PID
other_pid : (t o : Bool) → not (beq t o) ≡ true → eqb (number (kind_of_toggle o)) (number (kind_of_toggle t)) ≡ false
other_pid true true e = absurd (false≢true e)
other_pid true false e = refl
other_pid false true e = refl
other_pid false false e = absurd (false≢true e)

module _ (r : Record) (v : Option Kind) (n : ℕ) where
  -- ---- after OUT

  module _ (toggle : Bool) (e : v ≡ Some (kind_of_toggle toggle)) where
    under_toggle : not (beq toggle r.toggles.out_side) ≡ false → is_good_as (toggle_pid r) v ≡ true
    under_toggle f =
        ap (is_good_as (toggle_pid r)) e
        ∙ eq-eqb (number (toggle_pid r)) (number (kind_of_toggle toggle)) (ap (λ (b : Bool). number (kind_of_toggle b)) (sym ((booleans_Decides toggle r.toggles.out_side).0 (not-false (beq toggle r.toggles.out_side) f))))

    repeats : not (beq toggle r.toggles.out_side) ≡ true → is_good_as (toggle_pid r) v ≡ false
    repeats f = ap (is_good_as (toggle_pid r)) e ∙ other_pid toggle r.toggles.out_side f

    out_accounted : (speed : Speed) → Accounted r stage.Out v n (after_out speed r toggle n)
    unfolding after_out taking active pid_byte
    out_accounted speed =
        answered (Accounted r stage.Out v n)
        ((is_halted r.condition, saying r Stall)
        ∷ (not (beq toggle r.toggles.out_side), saying r Ack)
        ∷ (not (active Out r), saying r Nak)
        ∷ (ltb r.endpoint.maximum n, saying r Nak)
        ∷ [])
        (taking speed r n) (
          (λ f. turned_away r stage.Out v n r Stall (λ k. refl) (λ memory. refl)),
          (
            (λ f. inr (record { nowhere = refl; same = λ k. refl; not_told = λ memory. ap (λ (b : Bool). b && is_acceptance (said Ack memory)) (repeats f) })),
            (
              (λ f. turned_away r stage.Out v n r Nak (λ k. refl) (λ memory. refl)),
              ((λ f. turned_away r stage.Out v n r Nak (λ k. refl) (λ memory. refl)), tt),
            ),
          ),
        )
        (λ p. inl (record {
          place = refl;
          grows = taken_grows r n (unused_armed (chosen_buffer Out r) (not-false (active Out r) p.1.1.0));
          good = under_toggle p.1.0;
          accepted = accepts speed (taken r n);
        }))

  -- ---- after SETUP: control's buffer 0

  module _ (c : is_control r.endpoint.kind ≡ true) where
    zero_chosen : chosen Out r ≡ false
    unfolding chosen
    zero_chosen = rw c

    setup_taken : v ≡ Some pid.Data0 → is_unused (buffer_of r false) ≡ true → StoredTurn r stage.Setup v n (setting_up r n)
    unfolding setting_up pid_byte
    setup_taken e u =
        record {
          place = ap (λ (b : Bool). Some (place_of (buffer_of r b))) (sym zero_chosen);
          grows = subst (λ (b : Bool). Grows r (setting_up r n).after b n) (sym zero_chosen) (filled_grows r false n (unused_armed (buffer_of r false) u));
          good = ap (is_good_as pid.Data0) e;
          accepted = λ memory. refl;
        }

    setup_accounted : (toggle : Bool) → v ≡ Some (kind_of_toggle toggle) → Accounted r stage.Setup v n (after_setup r toggle n)
    unfolding after_setup
    setup_accounted true e = noted_only r stage.Setup v n NotTaken
    setup_accounted false e =
        after_setup_by r (Accounted r stage.Setup v n) false n
        (record { setup_taken = λ z u. inl (setup_taken e u); not_taken = noted_only r stage.Setup v n NotTaken })

  -- ---- every awaited packet

  staged_accounted : (speed : Speed) (s : Stage) → stage_fits s r.endpoint.kind ≡ true → (toggle : Bool) → v ≡ Some (kind_of_toggle toggle) → Accounted r s v n (staged speed s r toggle n)
  staged_accounted speed stage.Setup f toggle e = setup_accounted f toggle e
  staged_accounted speed stage.Out f toggle e = out_accounted toggle e speed

  pub accounted : (speed : Speed) (s : Stage) → stage_fits s r.endpoint.kind ≡ true → Accounted r s v n (data_turn speed s r v n)
  accounted speed s f =
      data_by speed s r v n (Accounted r s v n)
      (record { not_good = noted_only r s v n NotGood; out_of_place = noted_only r s v n OutOfPlace; in_stage = staged_accounted speed s f })
