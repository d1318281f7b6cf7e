-- Any packet but the host's token and good data behind it leaves of the endpoint's record all but events. Assumes nothing.
use Prim.Native.Nat.{ℕ}
use mathlib.Core.Path.{◌≡◌, refl, sym, ◌∙◌, ap, subst}
use mathlib.Core.Bool.{Bool, true, false, ◌||◌, true≢false, false≢true}
use mathlib.Core.List.{List}
use lib.ListN.{length}
use borrow.Author.Tests.{eq-eqb, ne_eqb}
use Rattle.std.specs.Prelude.{Option, None, is_some}
use Rattle.wire.specs.declared.pid.Kind.{Kind}
use Rattle.wire.specs.declared.pid.Kind.TheVariants as pid
use Rattle.wire.specs.Data.{verdict_of, payload_of}
use Rattle.state.specs.declared.Speed.{Speed}
use Rattle.state.specs.declared.RecordEvent.{RecordEvent}
use Rattle.state.specs.declared.RecordEvent.TheVariants.{OutOfPlace}
use Rattle.state.specs.declared.Record.{Record}
use Rattle.state.specs.declared.Stage.{Stage}
use Rattle.state.specs.declared.Stage.TheVariants as stage
use Rattle.state.specs.declared.Wait.{Wait}
use Rattle.state.specs.declared.Wait.TheVariants as wait
use Rattle.state.specs.declared.Core.{Core}
use Rattle.state.specs.Update.{record_at}
use Rattle.state.specs.Ranges.{is_control}
use Rattle.state.specs.Served.{serves_in}
use Rattle.firmware.specs.Records.{waits_on}
use Rattle.bus.specs.declared.token.Asks.{Asks}
use Rattle.bus.specs.declared.token.Asks.TheVariants as asks
use Rattle.bus.specs.declared.turn.Turn.{Turn}
use Rattle.bus.specs.declared.turn.Step.{Step}
use Rattle.bus.specs.declared.turn.Says.{Says}
use Rattle.bus.specs.declared.turn.Says.TheVariants.{Ack, Nak, Stall}
use Rattle.bus.specs.Turn.{saying, noting, waiting, placed}
use Rattle.bus.specs.Active.{acknowledged}
use Rattle.bus.specs.Tokens.{direction_of, sending, turn_of}
use Rattle.bus.specs.Data.{data_turn}
use Rattle.bus.specs.Idle.{no_wait}
use Rattle.bus.specs.Arrival.{data_step, timed_out, packet_step}
use Rattle.bus.proofs.Serving.{Serving}
use Rattle.bus.proofs.Turns.{setup_by, ping_by, in_by}
use Rattle.bus.proofs.Cases.{no_wait_by, packet_by}
use Rattle.demands.specs.Behaviour.{Lent, Packet, the_core}
use Rattle.demands.specs.Demand2.{lends}
use Rattle.demands.specs.Host.{Setting, pid_is, is_our_token, opens, waits_for_data}
use Rattle.demands.specs.Demand3.{Plays}
use Rattle.demands.proofs.Spared.{Noted, as_it_was, Quiet, quiet_same, quiet_then, quiet_placed}
use Rattle.demands.proofs.HostPackets.{verdict_not_good}
use Rattle.demands.proofs.Asked.{Addressed, Asked, asked}
use Rattle.demands.proofs.BusCalls.{packet_core}
use Rattle.demands.proofs.LastSent.{data_ends}
use Rattle.demands.proofs.Late.{timeout_waits_not, timeout_quiet, still_plays}

-- ---- a turn

-- the core does not wait on the endpoint's record, and waits for no data where the packet opens no exchange
abbrev WaitsElsewhere : Setting → List ℕ → Wait → Type 0
WaitsElsewhere s p v = (waits_on v s.index ≡ false) × (opens s p ≡ false → waits_for_data v ≡ false)

pub record Calm (s : Setting) (p : List ℕ) (core core' : Core) : Type 0 where
  pub quiet : Quiet s.index core core'
  pub waits : WaitsElsewhere s p core'.wait

-- a turn of record j: it is another, or only its events differ
record CalmTurn (s : Setting) (p : List ℕ) (r : Record) (j : ℕ) (t : Turn) : Type 0 where
  noted : j ≡ s.index → Noted r t.after
  waits : WaitsElsewhere s p t.wait

module _ (s : Setting) (p : List ℕ) where
  no_wait_lem : (v : Wait) → v ≡ wait.Nothing → WaitsElsewhere s p v
  no_wait_lem v e = subst (WaitsElsewhere s p) (sym e) (refl, λ o. refl)

  placed_calm : (core : Core) → Plays s core → (j : ℕ) (t : Turn) → CalmTurn s p (record_at core j) j t → Calm s p core (placed core j t).core
  placed_calm core plays j t c =
      record {
        quiet = quiet_placed s core plays j t.after t.wait c.noted;
        waits = c.waits;
      }

  says_calm : (r : Record) (j : ℕ) (x : Says) → CalmTurn s p r j (saying r x)
  says_calm r j x = record { noted = λ f. as_it_was r; waits = no_wait_lem _ refl }

  notes_calm : (r : Record) (j : ℕ) (event : RecordEvent) → CalmTurn s p r j (noting r event)
  notes_calm r j event = record { noted = λ f. (_, refl); waits = no_wait_lem _ refl }

-- ---- a token

module _ (s : Setting) (core : Core) (plays : Plays s core) (p : List ℕ) where
  -- the endpoint's record is of kind OUT
  not_in : (j : ℕ) → serves_in (record_at core j).endpoint.kind ≡ true → j ≡ s.index → ⊥
  not_in j e f = false≢true (sym (ap (λ (k : ℕ). serves_in (record_at core k).endpoint.kind) f ∙ ap serves_in plays.is_out) ∙ e)

  not_control : (j : ℕ) → is_control (record_at core j).endpoint.kind ≡ true → j ≡ s.index → ⊥
  not_control j e f = false≢true (sym (ap (λ (k : ℕ). is_control (record_at core k).endpoint.kind) f ∙ ap is_control plays.is_out) ∙ e)

  -- and an OUT token for it is the host's
  not_ours : is_our_token s p ≡ false → (j : ℕ) → Addressed core p asks.Out j → j ≡ s.index → ⊥
  unfolding is_our_token
  not_ours n j x f =
      let number : x.token.endpoint ≡ s.endpoint = x.its_number ∙ ap (λ (k : ℕ). (record_at core k).endpoint.number) f ∙ plays.same_number in
      true≢false (sym (rw (x.its_pid, x.its_token, eq-eqb x.token.address s.address (x.its_address ∙ plays.same_address), eq-eqb x.token.endpoint s.endpoint number)) ∙ n)

  -- OUT and SETUP open an exchange
  opened : (a : Asks) (j : ℕ) → Addressed core p a j → (pid_is pid.Out p || pid_is pid.Setup p) ≡ true → opens s p ≡ true
  unfolding opens
  opened a j x e = rw (e, x.its_token) (eq-eqb x.token.address s.address (x.its_address ∙ plays.same_address))

  or_setup : (b : Bool) → pid_is pid.Setup p ≡ true → (b || pid_is pid.Setup p) ≡ true
  or_setup true e = refl
  or_setup false e = e

  -- a wait for data on another record
  opening : (a : Asks) (j : ℕ) (x : Stage) → Addressed core p a j → (pid_is pid.Out p || pid_is pid.Setup p) ≡ true → (j ≡ s.index → ⊥) → CalmTurn s p (record_at core j) j (waiting (record_at core j) (wait.Data j x))
  opening a j x q e n =
      record {
        noted = λ f. as_it_was (record_at core j);
        waits = (ne_eqb j s.index n, λ o. absurd (true≢false (sym (opened a j q e) ∙ o)));
      }

  turn_calm : is_our_token s p ≡ false → (a : Asks) (j : ℕ) → Serving core j (direction_of a) → Addressed core p a j → CalmTurn s p (record_at core j) j (turn_of a j (record_at core j))
  unfolding sending
  turn_calm n asks.Out j v x = opening asks.Out j stage.Out x (rw x.its_pid) (not_ours n j x)
  turn_calm n asks.Setup j v x =
      let r = record_at core j in
      setup_by r (CalmTurn s p r j) j
      (record {
        at_control = λ c. opening asks.Setup j stage.Setup x (or_setup (pid_is pid.Out p) x.its_pid) (not_control j c);
        elsewhere = notes_calm s p r j OutOfPlace;
      })
  turn_calm n asks.Ping j v x =
      let r = record_at core j in
      ping_by r (CalmTurn s p r j)
      (record {
        at_interrupt = notes_calm s p r j OutOfPlace;
        ping_stall = says_calm s p r j Stall;
        ping_ack = λ a. says_calm s p r j Ack;
        ping_nak = λ a. says_calm s p r j Nak;
      })
  turn_calm n asks.In j v x =
      let r = record_at core j in
      in_by r (CalmTurn s p r j) j
      (record {
        in_stall = says_calm s p r j Stall;
        in_nak = λ a. says_calm s p r j Nak;
        in_send = λ a. record { noted = λ f. absurd (not_in j v.side f); waits = (ne_eqb j s.index (not_in j v.side), λ o. refl) };
      })

  idle_calm : core.wait ≡ wait.Nothing → is_our_token s p ≡ false → Calm s p core (no_wait core p).core
  idle_calm e n =
      no_wait_by core p (λ (x : Step). Calm s p core x.core) plays.sound
      (record {
        quiet = record { quiet = quiet_same s.index core; waits = no_wait_lem s p _ e };
        trouble = λ event. record { quiet = record { same_address = refl; only_events = as_it_was (record_at core s.index) }; waits = no_wait_lem s p _ e };
        frame = λ k. record { quiet = quiet_same s.index core; waits = no_wait_lem s p _ e };
        token = λ a j m v. placed_calm s p core plays j _ (turn_calm n a j v (subst (Asked core p) m (asked core plays.sound p)));
      })

-- ---- data awaited

not_good_noted : (speed : Speed) (r : Record) (n : ℕ) (x : Stage) (v : Option Kind) → v ≡ None → Noted r (data_turn speed x r v n).after
not_good_noted speed r n x v e = subst (λ (y : Option Kind). Noted r (data_turn speed x r y n).after) (sym e) (_, refl)

-- while data are awaited for the endpoint, the packet is no good data packet
abbrev pub Guarded : Setting → Core → List ℕ → Type 0
Guarded s core p = (x : Stage) → core.wait ≡ wait.Data s.index x → is_some (verdict_of p) ≡ false

module _ (s : Setting) (core : Core) (plays : Plays s core) (p : List ℕ) where
  data_calm : Guarded s core p → (i : ℕ) (x : Stage) → core.wait ≡ wait.Data i x → CalmTurn s p (record_at core i) i (data_turn core.speed x (record_at core i) (verdict_of p) (length (payload_of p)))
  data_calm g i x e =
      record {
        noted = λ f. not_good_noted core.speed (record_at core i) (length (payload_of p)) x (verdict_of p) (verdict_not_good (verdict_of p) (g x (e ∙ ap (λ (k : ℕ). wait.Data k x) f)));
        waits = no_wait_lem s p _ (data_ends core.speed (record_at core i) (length (payload_of p)) x (verdict_of p));
      }

  -- ---- every packet

  packet_calm : is_our_token s p ≡ false → Guarded s core p → Calm s p core (packet_step core p).core
  unfolding data_step acknowledged
  packet_calm n g =
      packet_by core p (λ (x : Step). Calm s p core x.core) plays.sound
      (record {
        awaited_data = λ i x e d v. placed_calm s p core plays i _ (data_calm g i x e);
        awaited_ack = λ i b k e a v. placed_calm s p core plays i (acknowledged (record_at core i) b k) (record { noted = λ f. absurd (not_in s core plays p i v.1.in_side_served f); waits = no_wait_lem s p _ refl });
        idle = λ e. record { quiet = quiet_then s.index core (timed_out core) _ (timeout_quiet core plays.sound s.index) idle.quiet; waits = idle.waits };
      })
    where
      idle : Calm s p (timed_out core) (no_wait (timed_out core) p).core
      idle = idle_calm s (timed_out core) (still_plays s core plays) p (timeout_waits_not core) n

  pub other_calm : (lent : Lent) → lends core lent ≡ true → is_our_token s p ≡ false → Guarded s core p → Calm s p core (the_core core lent (Packet p)).core
  other_calm lent l n g = subst (Calm s p core) (packet_core core lent plays.sound l p) (packet_calm n g)
