-- What a handshake tells: ACK and NYET, that the payload is stored or its PID is not the toggle; NAK, that there is no active buffer or the payload is too
-- long. Assumes nothing.
use Prim.Native.Nat.{ℕ, ◌<◌}
use mathlib.Core.Path.{◌≡◌, refl, sym, ◌∙◌, ap, subst}
use mathlib.Core.Logic.{◌⊎◌, inl, inr}
use mathlib.Core.Bool.{Bool, true, false, not}
use mathlib.Core.List.{List}
use lib.ListN.{length}
use Rattle.std.specs.Prelude.{Option, Some}
use Rattle.wire.specs.Data.{verdict_of, payload_of}
use Rattle.state.specs.declared.Record.{Record}
use Rattle.state.specs.declared.Stage.{Stage}
use Rattle.state.specs.declared.Stage.TheVariants as stage
use Rattle.state.specs.declared.Wait.TheVariants as wait
use Rattle.state.specs.declared.Core.{Core}
use Rattle.state.specs.Update.{record_at}
use Rattle.state.specs.Sound.{Sound}
use Rattle.bus.specs.declared.active.Direction.TheVariants.{Out, In}
use Rattle.bus.specs.declared.token.Asks.{Asks}
use Rattle.bus.specs.declared.token.Asks.TheVariants as asks
use Rattle.bus.specs.declared.idle.Met.TheVariants.{Token}
use Rattle.bus.specs.declared.turn.Says.{Says}
use Rattle.bus.specs.declared.turn.Says.TheVariants.{Silence, Ack, Nak, Stall, Nyet, Data, Frame}
use Rattle.bus.specs.declared.turn.Turn.{Turn}
use Rattle.bus.specs.declared.turn.Step.{Step}
use Rattle.bus.specs.Active.{active, acknowledged}
use Rattle.bus.specs.Tokens.{on_setup, on_ping, sending, on_in, turn_of}
use Rattle.bus.specs.Data.{taken, taking, after_out, setting_up, after_setup, staged}
use Rattle.bus.specs.Idle.{meeting}
use Rattle.bus.specs.Arrival.{is_data_first, data_step, packet_step, timed_out}
use Rattle.bus.proofs.Turns.{ping_by, setup_by, in_by, after_setup_by, after_out_by, accepted_by}
use Rattle.bus.proofs.Cases.{kind_of_toggle, data_by, no_wait_by, packet_by}
use Rattle.bus.proofs.Errors.{data_step_lem}
use Rattle.bus.proofs.KeepsSound.{timeout_sound}

-- ---- what is said is told apart

-- ACK or NYET
abbrev pub Positive : Says → Type 0
Positive says = (says ≡ Ack) ⊎ (says ≡ Nyet)

silence_not : Positive Silence → ⊥
silence_not (inl e) = cc
silence_not (inr e) = cc

stall_not : Positive Stall → ⊥
stall_not (inl e) = cc
stall_not (inr e) = cc

nak_not : Positive Nak → ⊥
nak_not (inl e) = cc
nak_not (inr e) = cc

-- ---- ACK and NYET

-- the payload is stored at a place
pub record StoredAt (x : Option ℕ) : Type 0 where
  pub place : ℕ
  pub is_there : x ≡ Some place

-- its PID is not the toggle: all that one call knows of a repeat. That the payload was stored before is a statement over many calls
pub record Repeats (r : Record) (s : Stage) (p : List ℕ) : Type 0 where
  pub behind_out : s ≡ stage.Out
  pub other_toggle : verdict_of p ≡ Some (kind_of_toggle (not r.toggles.out_side))

abbrev Accounted : Record → Stage → List ℕ → Turn → Type 0
Accounted r s p t = Positive t.says → StoredAt t.store ⊎ Repeats r s p

module _ (core : Core) (r : Record) (p : List ℕ) where
  setup_accounted : (toggle : Bool) (n : ℕ) → Accounted r stage.Setup p (after_setup r toggle n)
  unfolding setting_up
  setup_accounted toggle n =
      after_setup_by r (Accounted r stage.Setup p) toggle n
      (record { setup_taken = λ z u a. inl (record { place = _; is_there = refl }); not_taken = λ a. absurd (silence_not a) })

  out_accounted : (toggle : Bool) (n : ℕ) → verdict_of p ≡ Some (kind_of_toggle toggle) → Accounted r stage.Out p (after_out core.speed r toggle n)
  unfolding taking
  out_accounted toggle n e =
      after_out_by r (Accounted r stage.Out p) toggle n core.speed
      (record {
        out_stall = λ a. absurd (stall_not a);
        out_repeat = λ f a. inr (record { behind_out = refl; other_toggle = e ∙ ap (λ (b : Bool). Some (kind_of_toggle b)) f });
        out_no_buffer = λ f a. absurd (nak_not a);
        out_too_long = λ f a. absurd (nak_not a);
        out_take = λ h u a. inl (record { place = _; is_there = refl });
      })

  staged_accounted : (s : Stage) (toggle : Bool) (n : ℕ) → verdict_of p ≡ Some (kind_of_toggle toggle) → Accounted r s p (staged core.speed s r toggle n)
  staged_accounted stage.Setup toggle n e = setup_accounted toggle n
  staged_accounted stage.Out toggle n e = out_accounted toggle n e

-- data that are met with ACK or NYET are stored, or come after OUT under the PID that is not the toggle
pub acknowledged_stored : (core : Core) (i : ℕ) (s : Stage) (p : List ℕ) → core.wait ≡ wait.Data i s → is_data_first p ≡ true → Positive (packet_step core p).says → StoredAt (packet_step core p).store ⊎ Repeats (record_at core i) s p
unfolding data_step
acknowledged_stored core i s p e d =
    subst (λ (x : Step). Positive x.says → StoredAt x.store ⊎ Repeats (record_at core i) s p) (sym (data_step_lem core i s p e d))
    (data_by core.speed s (record_at core i) (verdict_of p) (length (payload_of p)) (Accounted (record_at core i) s p)
    (record {
      not_good = λ a. absurd (silence_not a);
      out_of_place = λ a. absurd (silence_not a);
      in_stage = λ toggle f. staged_accounted core (record_at core i) p s toggle (length (payload_of p)) f;
    }))

-- ---- NAK

-- why a packet is met with NAK: an OUT payload has no active buffer or is above the maximum, IN and PING have no active buffer
pub data NakReason (core : Core) (p : List ℕ) : Type 0 where
  no_buffer : (i : ℕ) → core.wait ≡ wait.Data i stage.Out → active Out (record_at core i) ≡ false → NakReason core p
  too_long : (i : ℕ) → core.wait ≡ wait.Data i stage.Out → (record_at core i).endpoint.maximum < length (payload_of p) → NakReason core p
  no_in_buffer : (i : ℕ) → meeting (timed_out core) p ≡ Token asks.In i → active In (record_at (timed_out core) i) ≡ false → NakReason core p
  no_ping_buffer : (i : ℕ) → meeting (timed_out core) p ≡ Token asks.Ping i → active Out (record_at (timed_out core) i) ≡ false → NakReason core p

module _ (core : Core) (p : List ℕ) where
  abbrev Nakked : Turn → Type 0
  Nakked t = t.says ≡ Nak → NakReason core p

  -- what else is said is no NAK
  quiet : Silence ≡ Nak → NakReason core p
  quiet e = absurd cc

  acked : Ack ≡ Nak → NakReason core p
  acked e = absurd cc

  nyetted : Nyet ≡ Nak → NakReason core p
  nyetted e = absurd cc

  stalled : Stall ≡ Nak → NakReason core p
  stalled e = absurd cc

  sent : (toggle : Bool) (from count : ℕ) → Data toggle from count ≡ Nak → NakReason core p
  sent toggle from count e = absurd cc

  framed : (n : ℕ) → Frame n ≡ Nak → NakReason core p
  framed n e = absurd cc

  -- ---- after data

  out_nak : (i : ℕ) → core.wait ≡ wait.Data i stage.Out → (toggle : Bool) → Nakked (after_out core.speed (record_at core i) toggle (length (payload_of p)))
  unfolding taking
  out_nak i e toggle =
      after_out_by (record_at core i) Nakked toggle (length (payload_of p)) core.speed
      (record {
        out_stall = stalled;
        out_repeat = λ f. acked;
        out_no_buffer = λ f g. no_buffer i e f;
        out_too_long = λ f g. too_long i e f;
        out_take = λ h a. accepted_by (λ (x : Says). x ≡ Nak → NakReason core p) acked nyetted core.speed (taken (record_at core i) (length (payload_of p)));
      })

  setup_nak : (r : Record) (toggle : Bool) (n : ℕ) → Nakked (after_setup r toggle n)
  unfolding setting_up
  setup_nak r toggle n = after_setup_by r Nakked toggle n (record { setup_taken = λ z u. acked; not_taken = quiet })

  staged_nak : (i : ℕ) (s : Stage) → core.wait ≡ wait.Data i s → (toggle : Bool) → Nakked (staged core.speed s (record_at core i) toggle (length (payload_of p)))
  staged_nak i stage.Setup e toggle = setup_nak (record_at core i) toggle (length (payload_of p))
  staged_nak i stage.Out e toggle = out_nak i e toggle

  -- ---- after a token

  module _ (i : ℕ) (r : Record) (same : r ≡ record_at (timed_out core) i) where
    at_ping : meeting (timed_out core) p ≡ Token asks.Ping i → Nakked (on_ping r)
    at_ping m =
        ping_by r Nakked
        (record { at_interrupt = quiet; ping_stall = stalled; ping_ack = λ a. acked; ping_nak = λ a g. no_ping_buffer i m (ap (active Out) (sym same) ∙ a) })

    at_in : meeting (timed_out core) p ≡ Token asks.In i → Nakked (on_in i r)
    unfolding sending
    at_in m =
        in_by r Nakked i (record { in_stall = stalled; in_nak = λ a g. no_in_buffer i m (ap (active In) (sym same) ∙ a); in_send = λ a. sent _ _ _ })

    at_setup : Nakked (on_setup i r)
    at_setup = setup_by r Nakked i (record { at_control = λ c. quiet; elsewhere = quiet })

    token_nak : (a : Asks) → meeting (timed_out core) p ≡ Token a i → Nakked (turn_of a i r)
    token_nak asks.Out m = quiet
    token_nak asks.Setup m = at_setup
    token_nak asks.Ping m = at_ping m
    token_nak asks.In m = at_in m

  pub nak_only_then : Sound core → (packet_step core p).says ≡ Nak → NakReason core p
  unfolding data_step acknowledged
  nak_only_then w =
      packet_by core p (λ (x : Step). x.says ≡ Nak → NakReason core p) w
      (record {
        awaited_data = λ i s e d x. data_by core.speed s (record_at core i) (verdict_of p) (length (payload_of p)) Nakked
            (record { not_good = quiet; out_of_place = quiet; in_stage = λ toggle f. staged_nak i s e toggle });
        awaited_ack = λ i b n e a x. quiet;
        idle = λ e. no_wait_by (timed_out core) p (λ (x : Step). x.says ≡ Nak → NakReason core p) (timeout_sound core w)
            (record {
              quiet = quiet;
              trouble = λ event. quiet;
              frame = framed;
              token = λ a i m v. token_nak i (record_at (timed_out core) i) refl a m;
            });
      })
