-- The IN side moves only by an ACK: a packet that is not acknowledged is sent again, the same, and an empty buffer sends once for each ACK. Assumes
-- nothing.
use Prim.Native.Nat.{ℕ, ◌+◌, ◌<◌, min}
use native.Mathlib.Omega.{arith}
use mathlib.Core.Path.{◌≡◌, refl, sym, ◌∙◌, ap, subst}
use mathlib.Core.Logic.{inl, inr}
use mathlib.Core.Bool.{Bool, true, false, not, ◌||◌, cond, true≢false}
use mathlib.Core.List.{List, []}
use lib.Dec.{ltb}
use lib.ListN.{length}
use Rattle.std.specs.Prelude.{None}
use Rattle.laws.proofs.Bools.{dec_eq}
use Rattle.wire.specs.Data.{packet, verdict_of, payload_of}
use Rattle.state.specs.declared.RecordEvent.{RecordEvent}
use Rattle.state.specs.declared.RecordEvent.TheVariants.{NotGood, OutOfPlace}
use Rattle.state.specs.declared.RecordEvents.{RecordEvents}
use Rattle.state.specs.declared.Endpoint.{Endpoint}
use Rattle.state.specs.declared.Descriptor.{Descriptor}
use Rattle.state.specs.declared.Descriptor.TheVariants.{Unallocated, Armed}
use Rattle.state.specs.declared.Record.{Record}
use Rattle.state.specs.declared.Stage.{Stage}
use Rattle.state.specs.declared.Stage.TheVariants as stage
use Rattle.state.specs.declared.Wait.TheVariants as wait
use Rattle.state.specs.declared.Core.{Core}
use Rattle.state.specs.Update.{with_next, with_events, buffer_of, with_buffer, record_at}
use Rattle.state.specs.Ranges.{is_control, is_armed, out_side, is_unused}
use Rattle.state.specs.Sound.{sender, WaitSound, Sound}
use Rattle.state.proofs.Updates.{record_given, other_record}
use Rattle.bus.specs.declared.active.Direction.TheVariants.{Out, In}
use Rattle.bus.specs.declared.token.Asks.{Asks}
use Rattle.bus.specs.declared.token.Asks.TheVariants as asks
use Rattle.bus.specs.declared.turn.Says.TheVariants.{Data}
use Rattle.bus.specs.declared.turn.Turn.{Turn}
use Rattle.bus.specs.declared.turn.Step.{Step}
use Rattle.bus.specs.Turn.{data_pid, said, noting, placed}
use Rattle.bus.specs.Active.{chosen, active, left_of, grown, spent, used_up, filled, acknowledged}
use Rattle.bus.specs.Tokens.{is_halted, on_setup, on_ping, sending, on_in, turn_of}
use Rattle.bus.specs.Data.{marked, taken, taking, after_out, staged, data_turn}
use Rattle.bus.specs.Idle.{no_wait}
use Rattle.bus.specs.Arrival.{is_data_first, is_ack, data_step, packet_step, timed_out}
use Rattle.bus.proofs.Serving.{Serving, awaiting, out_chosen, in_sender}
use Rattle.bus.proofs.Turns.{choice, ping_by, setup_by, in_by, after_out_by}
use Rattle.bus.proofs.Cases.{data_by, no_wait_by, packet_by}
use Rattle.bus.proofs.KeepsSound.{timeout_sound}
use Rattle.bus.proofs.Alone.{Ended, timeout_alone}

-- ---- flipping the IN toggle when sending: it flips on ACK, and the done counts of the IN side grow on ACK

-- the IN side of a record: its toggle, and the buffers of that side
pub record InSame (r q : Record) : Type 0 where
  pub endpoint_same : q.endpoint ≡ r.endpoint
  pub toggle : q.toggles.in_side ≡ r.toggles.in_side
  pub buffers : (second : Bool) → out_side r.endpoint.kind second ≡ false → buffer_of q second ≡ buffer_of r second

itself : (r : Record) → InSame r r
itself r = record { endpoint_same = refl; toggle = refl; buffers = λ second o. refl }

then : (r q s : Record) → InSame r q → InSame q s → InSame r s
then r q s a b =
    record {
      endpoint_same = b.endpoint_same ∙ a.endpoint_same;
      toggle = b.toggle ∙ a.toggle;
      buffers = λ second o. b.buffers second (ap (λ (e : Endpoint). out_side e.kind second) a.endpoint_same ∙ o) ∙ a.buffers second o;
    }

-- ---- a store is of the OUT side

other_side : (r : Record) (second : Bool) (d : Descriptor) → out_side r.endpoint.kind second ≡ true → (k : Bool) → out_side r.endpoint.kind k ≡ false → buffer_of (with_buffer r second d) k ≡ buffer_of r k
other_side r false d o false n = absurd (true≢false (sym o ∙ n))
other_side r false d o true n = refl
other_side r true d o false n = refl
other_side r true d o true n = absurd (true≢false (sym o ∙ n))

module _ (r : Record) (second : Bool) (o : out_side r.endpoint.kind second ≡ true) where
  used_same : (d : Descriptor) → InSame r (used_up (with_buffer r second d) second)
  unfolding used_up
  used_same d = record { endpoint_same = refl; toggle = refl; buffers = other second o }
    where
      other : (b : Bool) → out_side r.endpoint.kind b ≡ true → (k : Bool) → out_side r.endpoint.kind k ≡ false → buffer_of (with_buffer (with_buffer r b d) b (spent (buffer_of (with_buffer r b d) b))) k ≡ buffer_of r k
      other false o false n = absurd (true≢false (sym o ∙ n))
      other false o true n = refl
      other true o false n = refl
      other true o true n = absurd (true≢false (sym o ∙ n))

  filled_same : (n : ℕ) → InSame r (filled r second n)
  unfolding filled
  filled_same n =
      choice (InSame r) (ltb (left_of (grown (buffer_of r second) n)) r.endpoint.maximum) _ _
      (λ e. used_same (grown (buffer_of r second) n))
      (λ e. record { endpoint_same = refl; toggle = refl; buffers = λ k n'. other_side r second _ o k n' })

taken_same : (r : Record) (n : ℕ) → out_side r.endpoint.kind (chosen Out r) ≡ true → InSame r (taken r n)
unfolding taken marked
taken_same r n o =
    let f = filled_same r (chosen Out r) o n in
    choice (InSame r) (ltb n (filled r (chosen Out r) n).endpoint.maximum) _ _
    (λ e. record { endpoint_same = f.endpoint_same; toggle = f.toggle; buffers = f.buffers })
    (λ e. record { endpoint_same = f.endpoint_same; toggle = f.toggle; buffers = f.buffers })

module _ (core : Core) (r : Record) where
  abbrev Keeps : Turn → Type 0
  Keeps t = InSame r t.after

  out_same : (toggle : Bool) (n : ℕ) → out_side r.endpoint.kind (chosen Out r) ≡ true → Keeps (after_out core.speed r toggle n)
  unfolding taking
  out_same toggle n o =
      after_out_by r Keeps toggle n core.speed
      (record {
        out_stall = itself r;
        out_repeat = λ e. itself r;
        out_no_buffer = λ e. itself r;
        out_too_long = λ e. itself r;
        out_take = λ h a. taken_same r n o;
      })

  noted_same : (event : RecordEvent) → Keeps (noting r event)
  noted_same event = record { endpoint_same = refl; toggle = refl; buffers = λ second o. refl }

  -- ---- a token moves no buffer and no toggle

  setup_same : (i : ℕ) → Keeps (on_setup i r)
  setup_same i = setup_by r Keeps i (record { at_control = λ c. itself r; elsewhere = noted_same OutOfPlace })

  ping_same : Keeps (on_ping r)
  ping_same =
      ping_by r Keeps (record { at_interrupt = noted_same OutOfPlace; ping_stall = itself r; ping_ack = λ a. itself r; ping_nak = λ a. itself r })

  in_same : (i : ℕ) → Keeps (on_in i r)
  unfolding sending
  in_same i =
      in_by r Keeps i
      (record {
        in_stall = itself r;
        in_nak = λ a. itself r;
        in_send = λ a. record { endpoint_same = refl; toggle = refl; buffers = λ second o. refl };
      })

  token_same : (a : Asks) (i : ℕ) → Keeps (turn_of a i r)
  token_same asks.Out i = itself r
  token_same asks.Setup i = setup_same i
  token_same asks.Ping i = ping_same
  token_same asks.In i = in_same i

-- ---- every packet but the ACK that is awaited, and the data after SETUP, which set both toggles

placed_same : (core : Core) → Sound core → (i : ℕ) → i < 16 → (t : Turn) → InSame (record_at core i) t.after → (j : ℕ) → InSame (record_at core j) (record_at (placed core i t).core j)
placed_same core w i h t m j = pick (dec_eq j i)
  where
    pick : Dec (j ≡ i) → InSame (record_at core j) (record_at (placed core i t).core j)
    pick (yes e) =
        subst (λ (k : ℕ). InSame (record_at core k) (record_at (placed core i t).core k)) (sym e)
        (subst (InSame (record_at core i)) (sym (record_given core i t.after (omega (arith, h, w.sixteen)))) m)
    pick (no n) = subst (InSame (record_at core j)) (sym (other_record core i j t.after n)) (itself (record_at core j))

ended_same : (core : Core) (j : ℕ) (q : Record) → Ended core j q → InSame (record_at core j) q
ended_same core j q (inl e) = subst (InSame (record_at core j)) (sym e) (itself (record_at core j))
ended_same core j q (inr e) =
    subst (InSame (record_at core j)) (sym e.1) (record { endpoint_same = refl; toggle = refl; buffers = λ second o. refl })

pub in_only_by_ack : (core : Core) → Sound core → (p : List ℕ)
    → ((i : ℕ) (buffer : Bool) (sent : ℕ) → core.wait ≡ wait.Acknowledge i buffer sent → is_ack p ≡ true → ⊥)
    → ((i : ℕ) → core.wait ≡ wait.Data i stage.Setup → is_data_first p ≡ true → ⊥)
    → (j : ℕ) → InSame (record_at core j) (record_at (packet_step core p).core j)
unfolding data_step
in_only_by_ack core w p no_ack no_setup j =
    packet_by core p (λ (x : Step). InSame (record_at core j) (record_at x.core j)) w
    (record {
      awaited_data = λ i s e d x. placed_same core w i x.0 (data_turn core.speed s (record_at core i) (verdict_of p) (length (payload_of p))) (after i s e d x) j;
      awaited_ack = λ i b n e a x. absurd (no_ack i b n e a);
      idle = λ e. then (record_at core j) (record_at (timed_out core) j) _ (ended_same core j _ (timeout_alone core w j)) (idle_same (timed_out core) (timeout_sound core w));
    })
  where
    in_stage : (i : ℕ) (s : Stage) → core.wait ≡ wait.Data i s → is_data_first p ≡ true → Serving core i Out → (toggle : Bool) → Keeps core (record_at core i) (staged core.speed s (record_at core i) toggle (length (payload_of p)))
    in_stage i stage.Setup e d v toggle = absurd (no_setup i e d)
    in_stage i stage.Out e d v toggle = out_same core (record_at core i) toggle (length (payload_of p)) (out_chosen (record_at core i) v.side)

    after : (i : ℕ) (s : Stage) → core.wait ≡ wait.Data i s → is_data_first p ≡ true → WaitSound core (wait.Data i s) → Keeps core (record_at core i) (data_turn core.speed s (record_at core i) (verdict_of p) (length (payload_of p)))
    after i s e d x =
        data_by core.speed s (record_at core i) (verdict_of p) (length (payload_of p)) (Keeps core (record_at core i))
        (record { not_good = noted_same core (record_at core i) NotGood; out_of_place = noted_same core (record_at core i) OutOfPlace; in_stage = λ toggle f. in_stage i s e d (awaiting core i s x) toggle })

    idle_same : (c : Core) → Sound c → InSame (record_at c j) (record_at (no_wait c p).core j)
    idle_same c u =
        no_wait_by c p (λ (x : Step). InSame (record_at c j) (record_at x.core j)) u
        (record {
          quiet = itself (record_at c j);
          trouble = λ event. itself (record_at c j);
          frame = λ n. itself (record_at c j);
          token = λ a i m v. placed_same c u i v.index (turn_of a i (record_at c i)) (token_same c (record_at c i) a i) j;
        })

-- ---- choosing the IN buffer afresh for a retry: the same buffer, bytes and PID are sent, also if the other was armed meanwhile

-- all that a record needs to keep for a retry
pub record Resends (r q : Record) (buffer : Bool) : Type 0 where
  pub running : is_halted q.condition ≡ false
  pub same_endpoint : q.endpoint ≡ r.endpoint
  pub same_toggle : q.toggles.in_side ≡ r.toggles.in_side
  pub sends_from : sender q ≡ buffer
  pub same_buffer : buffer_of q buffer ≡ buffer_of r buffer

-- it keeps it as it sends; a timeout or a read of the events writes events alone; and the firmware may arm the other buffer
pub sent_resends : (r : Record) → is_halted r.condition ≡ false → Resends r (with_next r (chosen In r)) (chosen In r)
sent_resends r h =
    record { running = h; same_endpoint = refl; same_toggle = refl; sends_from = sym (in_sender r); same_buffer = refl }

module _ (r q : Record) (buffer : Bool) (x : Resends r q buffer) where
  pub events_resend : (events : RecordEvents) → Resends r (with_events q events) buffer
  events_resend events =
      record { running = x.running; same_endpoint = x.same_endpoint; same_toggle = x.same_toggle; sends_from = x.sends_from; same_buffer = x.same_buffer }

  pub other_armed_resends : (d : Descriptor) → Resends r (with_buffer q (not buffer) d) buffer
  other_armed_resends d =
      record { running = x.running; same_endpoint = x.same_endpoint; same_toggle = x.same_toggle; sends_from = x.sends_from; same_buffer = kept buffer ∙ x.same_buffer }
    where
      kept : (b : Bool) → buffer_of (with_buffer q (not b) d) b ≡ buffer_of q b
      kept false = refl
      kept true = refl

unused_armed : (d : Descriptor) → is_unused d ≡ true → is_armed d ≡ true
unused_armed Unallocated u = u
unused_armed (Armed base length done used) u = refl

-- the buffer that sent is the one that is chosen again
chosen_again : (q : Record) (b : Bool) → sender q ≡ b → is_unused (buffer_of q b) ≡ true → chosen In q ≡ b
unfolding chosen
chosen_again q b e u = go (is_control q.endpoint.kind) refl
  where
    go : (c : Bool) → is_control q.endpoint.kind ≡ c → cond c true (cond (is_armed (buffer_of q q.next)) q.next (not q.next)) ≡ b
    go true k = ap (λ (x : Bool). x || q.next) (sym k) ∙ e
    go false k =
        let n = ap (λ (x : Bool). x || q.next) (sym k) ∙ e in
        rw (n, unused_armed (buffer_of q b) u)

pub retry : (i : ℕ) (r q : Record) → is_halted r.condition ≡ false → active In r ≡ true → Resends r q (chosen In r) → ((on_in i q).says ≡ (on_in i r).says) × ((on_in i q).wait ≡ (on_in i r).wait)
unfolding on_in sending active
retry i r q h a x =
    let u = ap is_unused x.same_buffer ∙ a in
    let c = chosen_again q (chosen In r) x.sends_from u in
    (rw (h, x.running, c, u, a, x.same_buffer, x.same_endpoint, x.same_toggle), rw (h, x.running, c, u, a, x.same_buffer, x.same_endpoint))

-- ---- treating left 0 as used for a fresh zero-length IN buffer: it sends one empty packet, and is used when that is acknowledged

pub empty_sends : (i base : ℕ) (r : Record) → is_halted r.condition ≡ false → buffer_of r (chosen In r) ≡ Armed base 0 0 false
    → on_in i r ≡ record { after = with_next r (chosen In r); wait = wait.Acknowledge i (chosen In r) 0; store = None; says = Data r.toggles.in_side (base + 0) 0 }
unfolding on_in sending active
empty_sends i base r h e = let z : min r.endpoint.maximum 0 ≡ 0 = omega arith in rw (h, e, z)

-- an empty packet is PID and check alone
pub empty_said : (toggle : Bool) (from : ℕ) (memory : List ℕ) → said (Data toggle from 0) memory ≡ packet (data_pid toggle) []
empty_said toggle from memory = refl

pub empty_used : (base : ℕ) (r : Record) (second : Bool) → buffer_of r second ≡ Armed base 0 0 false → buffer_of (acknowledged r second 0).after second ≡ Armed base 0 0 true
unfolding acknowledged used_up
empty_used base r false e = rw e
empty_used base r true e = rw e
