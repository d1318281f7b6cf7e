-- The host's data packet behind its token: a repeat is met with ACK, without an active buffer NAK, and else its payload is stored. Assumes nothing.
use Prim.Native.Nat.{ℕ, ◌+◌, ◌<◌, ◌≤◌}
use native.Mathlib.Omega.{arith}
use mathlib.Core.Path.{◌≡◌, refl, sym, ◌∙◌, ap, ap₂, subst}
use mathlib.Core.Bool.{Bool, true, false, not}
use mathlib.Core.List.{List, [], ◌∷◌}
use lib.Dec.{leb}
use lib.ListN.{length, get_or}
use borrow.Author.Tests.{leb-true, le-ltb}
use Rattle.std.specs.Prelude.{Option, Some}
use Rattle.laws.proofs.Lists.{all_at}
use Rattle.wire.specs.declared.pid.Kind.{Kind}
use Rattle.wire.specs.Pid.{pid_byte}
use Rattle.wire.specs.Data.{payload_of}
use Rattle.state.specs.declared.Record.{Record}
use Rattle.state.specs.declared.Stage.TheVariants as stage
use Rattle.state.specs.declared.Wait.TheVariants as wait
use Rattle.state.specs.declared.Core.{Core}
use Rattle.state.specs.Update.{record_at, with_record}
use Rattle.state.proofs.Updates.{record_given}
use Rattle.bus.specs.declared.active.Direction.TheVariants.{Out}
use Rattle.bus.specs.declared.turn.Says.{Says}
use Rattle.bus.specs.declared.turn.Says.TheVariants.{Ack, Nak}
use Rattle.bus.specs.declared.turn.Turn.{Turn}
use Rattle.bus.specs.declared.turn.Step.{Step}
use Rattle.bus.specs.Turn.{written, said, saying, placed}
use Rattle.bus.specs.Active.{chosen, chosen_buffer, active, place_of}
use Rattle.bus.specs.Tokens.{is_halted}
use Rattle.bus.specs.Data.{taken, taking, after_out, data_turn}
use Rattle.bus.specs.Arrival.{data_step, packet_step}
use Rattle.bus.proofs.Cases.{kind_of_toggle}
use Rattle.bus.proofs.Errors.{data_step_lem}
use Rattle.bus.proofs.Stretches.{bytes_there, stored_call}
use Rattle.demands.specs.Behaviour.{Lent, Packet, Outcome, heard, the_core}
use Rattle.demands.specs.Demand2.{lends, is_acceptance}
use Rattle.demands.specs.Host.{stored_by, Setting, odd, data_packet, waits_for_data}
use Rattle.demands.specs.Demand3.{Plays}
use Rattle.demands.proofs.Spared.{toggle_stays, as_it_was, within, quiet_placed}
use Rattle.demands.proofs.HostPackets.{data_first, data_reads, data_payload}
use Rattle.demands.proofs.OurToken.{maximum_small}
use Rattle.demands.proofs.DemandTwo.{accepts}
use Rattle.demands.proofs.BusCalls.{brought, not_refused, packet_brings, heard_said}
use Rattle.demands.proofs.Unanswered.{Unstored}
use Rattle.demands.proofs.Storing.{Taken, flips, is_taken}

-- the payload is stored, the wait ends, and the answer is an acceptance
pub record Took (s : Setting) (core : Core) (payload : List ℕ) (o : Outcome) : Type 0 where
  pub same_address : o.core.address ≡ core.address
  pub its_record : Taken (record_at core s.index) (chosen Out (record_at core s.index)) (length payload) (record_at o.core s.index)
  pub one_stored : stored_by s.index core o ≡ (payload ∷ [])
  pub ended : waits_for_data o.core.wait ≡ false
  pub answer : is_acceptance (heard o) ≡ true

-- the packet with the payload behind the first k arrives behind the token
pub record Awaited (s : Setting) (core : Core) (lent : Lent) (k : ℕ) : Type 0 where
  pub plays : Plays s core
  pub lent_whole : lends core lent ≡ true
  pub waits : core.wait ≡ wait.Data s.index stage.Out
  pub more : k < length s.payloads

module _ (s : Setting) (core : Core) (lent : Lent) (k : ℕ) (a : Awaited s core lent k) where
  abbrev i : ℕ
  i = s.index

  abbrev r : Record
  r = record_at core i

  abbrev payload : List ℕ
  payload = get_or s.payloads k []

  abbrev call : Outcome
  call = the_core core lent (Packet (data_packet s k))

  fits : length payload ≤ r.endpoint.maximum
  fits =
      leb-true (length payload) r.endpoint.maximum
      (all_at (λ x. leb (length x) r.endpoint.maximum) [] s.payloads k a.more a.plays.none_above)

  short : length payload ≤ 1024
  short = omega (arith, fits, maximum_small s core a.plays)

  not_halted : is_halted r.condition ≡ false
  not_halted = ap is_halted a.plays.is_normal

  its_payload : payload_of (data_packet s k) ≡ payload
  its_payload = data_payload (odd k) payload short

  -- the step is that of the record's turn after OUT
  data_placed : packet_step core (data_packet s k) ≡ placed core i (after_out core.speed r (odd k) (length payload))
  unfolding data_step
  data_placed =
      data_step_lem core i stage.Out (data_packet s k) a.waits (data_first (odd k) payload)
      ∙ ap₂ (λ (v : Option Kind) (n : ℕ). placed core i (data_turn core.speed stage.Out r v n)) (data_reads (odd k) payload short) (ap length its_payload)
      ∙ ap (placed core i) (turned (odd k))
    where
      turned : (t : Bool) → data_turn core.speed stage.Out r (Some (kind_of_toggle t)) (length payload) ≡ after_out core.speed r t (length payload)
      turned true = refl
      turned false = refl

  brings : (t : Turn) → after_out core.speed r (odd k) (length payload) ≡ t → call ≡ brought (placed core i t) payload lent
  brings t e =
      packet_brings core lent a.plays.sound a.lent_whole (data_packet s k)
      ∙ ap₂ (λ (x : Step) (y : List ℕ). brought x y lent) (data_placed ∙ ap (placed core i) e) its_payload

  -- ---- a handshake, and nothing else

  answered : (x : Says) (accepted : Bool) → is_acceptance (said x lent.memory) ≡ accepted → after_out core.speed r (odd k) (length payload) ≡ saying r x → Unstored s core accepted call
  answered x accepted h e =
      subst (Unstored s core accepted) (sym (brings (saying r x) e))
      (record {
        quiet = quiet_placed s core a.plays i r _ (λ f. as_it_was r);
        ended = refl;
        answer = ap is_acceptance (heard_said (placed core i (saying r x)) payload lent) ∙ h;
      })

  pub repeated : r.toggles.out_side ≡ not (odd k) → Unstored s core true call
  unfolding after_out pid_byte
  repeated e = answered Ack true refl (rw (not_halted, e, flips (odd k)))

  pub unready : r.toggles.out_side ≡ odd k → active Out r ≡ false → Unstored s core false call
  unfolding after_out pid_byte
  unready e n = answered Nak false refl (rw (not_halted, e, toggle_stays (odd k), n))

  -- ---- the payload is stored

  pub took : r.toggles.out_side ≡ odd k → active Out r ≡ true → Took s core payload call
  unfolding after_out taking active stored_by pid_byte
  took e n = subst (Took s core payload) (sym (brings turn step)) here
    where
      turn : Turn
      turn = taking core.speed r (length payload)

      q : Record
      q = taken r (length payload)

      place : ℕ
      place = place_of (chosen_buffer Out r)

      memory : List ℕ
      memory = written place payload lent.memory

      step : after_out core.speed r (odd k) (length payload) ≡ turn
      step = rw (not_halted, e, toggle_stays (odd k), n, le-ltb r.endpoint.maximum (length payload) fits)

      room : place + length payload ≤ length lent.memory
      room =
          subst (λ (x : List ℕ). place + length x ≤ length lent.memory) its_payload
          (stored_call core lent.memory lent.reply (data_packet s k) place (not_refused core lent a.plays.sound a.lent_whole) (ap (λ (x : Step). x.store) (data_placed ∙ ap (placed core i) step))).1

      its_record : Taken r (chosen Out r) (length payload) (record_at (with_record core i q) i)
      its_record = subst (Taken r (chosen Out r) (length payload)) (sym (record_given core i q (within s core a.plays))) (is_taken r (length payload))

      here : Took s core payload (brought (placed core i turn) payload lent)
      here =
          record {
            same_address = refl;
            its_record = its_record;
            one_stored = its_record.one_stored memory n ∙ ap (λ (x : List ℕ). x ∷ []) (bytes_there lent.memory payload place room);
            ended = refl;
            answer = ap is_acceptance (heard_said (placed core i turn) payload lent) ∙ accepts core.speed q memory;
          }
