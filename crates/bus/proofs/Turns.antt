-- The cases of a record's turn, by document 01's lists: what holds of each answer where its test holds holds of the turn. Assumes nothing.
use Prim.Native.Nat.{ℕ, ◌<◌, ◌≤◌}
use mathlib.Core.Path.{◌≡◌, refl}
use mathlib.Core.Bool.{Bool, true, false, not, ◌&&◌, cond, beq, false≢true}
use mathlib.Core.List.{[], ◌∷◌}
use lib.Dec.{ltb, eqb}
use borrow.Author.Tests.{ltb-true, ltb-false, eqb-true, not-true, not-false}
use Rattle.laws.proofs.Bools.{both}
use Rattle.laws.proofs.First.{answered}
use Rattle.state.specs.declared.Speed.{Speed}
use Rattle.state.specs.declared.RecordEvent.TheVariants.{OutOfPlace, NotTaken}
use Rattle.state.specs.declared.Record.{Record}
use Rattle.state.specs.declared.Stage.TheVariants as stage
use Rattle.state.specs.declared.Wait.TheVariants as wait
use Rattle.state.specs.Update.{buffer_of}
use Rattle.state.specs.Ranges.{is_control, is_unused}
use Rattle.bus.specs.declared.active.Direction.TheVariants.{Out, In}
use Rattle.bus.specs.declared.turn.Says.{Says}
use Rattle.bus.specs.declared.turn.Says.TheVariants.{Ack, Nak, Stall, Nyet}
use Rattle.bus.specs.declared.turn.Turn.{Turn}
use Rattle.bus.specs.Turn.{saying, noting, waiting}
use Rattle.bus.specs.Active.{active}
use Rattle.bus.specs.Tokens.{is_halted, is_interrupt, on_setup, on_ping, sending, on_in}
use Rattle.bus.specs.Data.{is_high, acceptance, taking, after_out, setting_up, after_setup}

-- what holds of each of two answers where it is given holds of the one that is
pub choice : {A : Type 0} (P : A → Type 0) (b : Bool) (x y : A) → (b ≡ true → P x) → (b ≡ false → P y) → P (cond b x y)
choice P true x y f g = f refl
choice P false x y f g = g refl

flipped : (t o : Bool) → not (beq t o) ≡ true → t ≡ not o
flipped true true e = absurd (false≢true e)
flipped true false e = refl
flipped false true e = refl
flipped false false e = absurd (false≢true e)

module _ (r : Record) (Q : Turn → Type 0) where
  -- ---- tokens

  pub record PingCases : Type 0 where
    pub at_interrupt : Q (noting r OutOfPlace)
    pub ping_stall : Q (saying r Stall)
    pub ping_ack : active Out r ≡ true → Q (saying r Ack)
    pub ping_nak : active Out r ≡ false → Q (saying r Nak)

  pub ping_by : PingCases → Q (on_ping r)
  unfolding on_ping
  ping_by c =
      answered Q
      ((is_interrupt r.endpoint.transfer, noting r OutOfPlace)
      ∷ (is_halted r.condition, saying r Stall)
      ∷ (active Out r, saying r Ack)
      ∷ [])
      (saying r Nak)
      ((λ e. c.at_interrupt), ((λ e. c.ping_stall), (c.ping_ack, tt)))
      (λ p. c.ping_nak p.1.1.0)

  module _ (i : ℕ) where
    pub record SetupCases : Type 0 where
      pub at_control : is_control r.endpoint.kind ≡ true → Q (waiting r (wait.Data i stage.Setup))
      pub elsewhere : Q (noting r OutOfPlace)

    pub setup_by : SetupCases → Q (on_setup i r)
    unfolding on_setup
    setup_by c = choice Q (is_control r.endpoint.kind) _ _ c.at_control (λ e. c.elsewhere)

    pub record InCases : Type 0 where
      pub in_stall : Q (saying r Stall)
      pub in_nak : active In r ≡ false → Q (saying r Nak)
      pub in_send : active In r ≡ true → Q (sending i r)

    pub in_by : InCases → Q (on_in i r)
    unfolding on_in
    in_by c =
        answered Q
        ((is_halted r.condition, saying r Stall) ∷ (not (active In r), saying r Nak) ∷ [])
        (sending i r)
        ((λ e. c.in_stall), ((λ e. c.in_nak (not-true (active In r) e)), tt))
        (λ p. c.in_send (not-false (active In r) p.1.0))

  -- ---- data awaited

  module _ (toggle : Bool) (n : ℕ) where
    pub record AfterSetup : Type 0 where
      pub setup_taken : n ≡ 8 → is_unused (buffer_of r false) ≡ true → Q (setting_up r n)
      pub not_taken : Q (noting r NotTaken)

    pub after_setup_by : AfterSetup → Q (after_setup r toggle n)
    unfolding after_setup
    after_setup_by c = choice Q (not toggle && eqb n 8 && is_unused (buffer_of r false)) _ _ taken (λ e. c.not_taken)
      where
        taken : (not toggle && eqb n 8 && is_unused (buffer_of r false)) ≡ true → Q (setting_up r n)
        taken e =
            let p = both (not toggle && eqb n 8) (is_unused (buffer_of r false)) e in
            c.setup_taken (eqb-true n 8 (both (not toggle) (eqb n 8) p.0).1) p.1

    pub record AfterOut (speed : Speed) : Type 0 where
      pub out_stall : Q (saying r Stall)
      pub out_repeat : toggle ≡ not r.toggles.out_side → Q (saying r Ack)
      pub out_no_buffer : active Out r ≡ false → Q (saying r Nak)
      pub out_too_long : r.endpoint.maximum < n → Q (saying r Nak)
      pub out_take : n ≤ r.endpoint.maximum → active Out r ≡ true → Q (taking speed r n)

    pub after_out_by : (speed : Speed) → AfterOut speed → Q (after_out speed r toggle n)
    unfolding after_out
    after_out_by speed c =
        answered Q
        ((is_halted r.condition, saying r Stall)
        ∷ (not (beq toggle r.toggles.out_side), saying r Ack)
        ∷ (not (active Out r), saying r Nak)
        ∷ (ltb r.endpoint.maximum n, saying r Nak)
        ∷ [])
        (taking speed r n) (
          (λ e. c.out_stall),
          (
            (λ e. c.out_repeat (flipped toggle r.toggles.out_side e)),
            ((λ e. c.out_no_buffer (not-true (active Out r) e)), ((λ e. c.out_too_long (ltb-true r.endpoint.maximum n e)), tt)),
          ),
        )
        (λ p. c.out_take (ltb-false r.endpoint.maximum n p.1.1.1.0) (not-false (active Out r) p.1.1.0))

-- what a stored payload is met with
pub accepted_by : (P : Says → Type 0) → P Ack → P Nyet → (speed : Speed) (q : Record) → P (acceptance speed q)
unfolding acceptance
accepted_by P ack nyet speed q =
    choice P (is_high speed && not (is_interrupt q.endpoint.transfer) && not (active Out q)) Nyet Ack (λ e. nyet) (λ e. ack)
