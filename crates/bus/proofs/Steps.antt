-- Which step a packet takes, and that only awaited data are stored. Assumes nothing.
use Prim.Native.Nat.{ℕ}
use mathlib.Core.Path.{◌≡◌, refl, ◌∙◌, ap}
use mathlib.Core.Bool.{true}
use mathlib.Core.List.{List}
use Rattle.std.specs.Prelude.{None, Option}
use Rattle.wire.specs.declared.pid.Kind as pid
use Rattle.state.specs.declared.Speed.{Speed}
use Rattle.state.specs.declared.Record.{Record}
use Rattle.state.specs.declared.Stage.{Stage}
use Rattle.state.specs.declared.Core.{Core}
use Rattle.state.specs.Update.{record_at}
use Rattle.state.specs.Sound.{Sound}
use Rattle.bus.specs.declared.token.Asks.{Asks}
use Rattle.bus.specs.declared.token.Asks.TheVariants as asks
use Rattle.bus.specs.declared.turn.Turn.{Turn}
use Rattle.bus.specs.declared.turn.Step.{Step}
use Rattle.bus.specs.Tokens.{on_setup, on_ping, sending, on_in, turn_of}
use Rattle.bus.specs.Data.{data_turn}
use Rattle.bus.specs.Idle.{no_wait}
use Rattle.bus.specs.Arrival.{awaited, fulfilled, packet_step}
use Rattle.bus.proofs.Turns.{ping_by, setup_by, in_by}
use Rattle.bus.proofs.Cases.{no_wait_by}

module _ (core : Core) (p : List ℕ) where
  pub step_awaited : awaited core.wait p ≡ true → packet_step core p ≡ fulfilled core p
  unfolding packet_step
  step_awaited e = rw e

-- ---- a token stores nothing

module _ (i : ℕ) (r : Record) where
  abbrev Empty : Turn → Type 0
  Empty t = t.store ≡ None

  setup_empty : Empty (on_setup i r)
  setup_empty = setup_by r Empty i (record { at_control = λ c. refl; elsewhere = refl })

  ping_empty : Empty (on_ping r)
  ping_empty = ping_by r Empty (record { at_interrupt = refl; ping_stall = refl; ping_ack = λ a. refl; ping_nak = λ a. refl })

  in_empty : Empty (on_in i r)
  unfolding sending
  in_empty = in_by r Empty i (record { in_stall = refl; in_nak = λ a. refl; in_send = λ a. refl })

  pub token_stores_nothing : (a : Asks) → (turn_of a i r).store ≡ None
  token_stores_nothing asks.Out = refl
  token_stores_nothing asks.Setup = setup_empty
  token_stores_nothing asks.Ping = ping_empty
  token_stores_nothing asks.In = in_empty

pub idle_stores_nothing : (core : Core) → Sound core → (p : List ℕ) → (no_wait core p).store ≡ None
idle_stores_nothing core w p =
    no_wait_by core p (λ (x : Step). x.store ≡ None) w
    (record { quiet = refl; trouble = λ event. refl; frame = λ n. refl; token = λ a i e v. token_stores_nothing i (record_at core i) a })

-- ---- the turn of what was read

pub same_turn : (speed : Speed) (x : Stage) (r s : Record) (v y : Option pid.Kind) (n m : ℕ) → r ≡ s → v ≡ y → n ≡ m → data_turn speed x r v n ≡ data_turn speed x s y m
same_turn speed x r s v y n m e f g =
    ap (λ (q : Record). data_turn speed x q v n) e ∙ ap (λ (z : Option pid.Kind). data_turn speed x s z n) f ∙ ap (λ (k : ℕ). data_turn speed x s y k) g
