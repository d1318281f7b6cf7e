-- The done counts are what the history says, over every run: a start begins at 0, and each call keeps count and total alike. Assumes nothing.
use Prim.Native.Nat.{ℕ, ◌+◌}
use native.Mathlib.Omega.{arith}
use mathlib.Core.Path.{◌≡◌, refl, sym, ◌∙◌, ap, ap₂, subst}
use mathlib.Core.Bool.{Bool, true, false, cond}
use mathlib.Core.List.{List, [], ◌∷◌}
use lib.Dec.{eqb}
use lib.ListN.{length}
use Rattle.std.specs.Prelude.{Result, Ok, Err}
use Rattle.std.proofs.lemmas.List.Sums.{sum_by-append}
use Rattle.refusals.specs.declared.Refusal.{Refusal}
use Rattle.wire.specs.Data.{payload_of}
use Rattle.state.specs.declared.Wait.{Wait}
use Rattle.state.specs.declared.Wait.TheVariants as wait
use Rattle.state.specs.declared.Core.{Core}
use Rattle.state.specs.declared.Outcome as state
use Rattle.state.specs.Sound.{Sound}
use Rattle.firmware.proofs.KeepsSound.{start_sound}
use Rattle.bus.specs.declared.Answer as bus
use Rattle.bus.specs.Arrival.{timed_out}
use Rattle.bus.specs.Calls.{lend_refusal, timeout_of}
use Rattle.bus.proofs.Lent.{timeout_accepted, timeout_refused}
use Rattle.demands.specs.Behaviour.{Lent, Call, Start, Configure, Arm, Disarm, SetHalt, ClearHalt, SetAddress, BusReset, RecordEvents, SystemEvents, Packet, Timeout, refusal, Outcome, heard, the_core, Given, run, run_from}
use Rattle.demands.specs.History.{Ledger, blank, emptied, stores, acknowledges, added, told, noted, ledger, total, DoneByHistory}
use Rattle.demands.proofs.Rules.{call_sound, run_sound}
use Rattle.demands.proofs.BusCalls.{call_accepted, call_refused}
use Rattle.demands.proofs.Counts.{timeout_same}
use Rattle.demands.proofs.Gains.{gained, packet_gains}
use Rattle.demands.proofs.LastSent.{Outstanding, none_outstanding, packet_sent}
use Rattle.demands.proofs.Late.{timeout_waits_not}
use Rattle.demands.proofs.Telling.{not_done, Told, start_told, configure_told, arm_told, disarm_told, set_halt_told, clear_halt_told, set_address_told, bus_reset_told, record_events_told, system_events_told}
use Rattle.demands.proofs.Standing.{stands}

-- ---- the total of a ledger

one_or_none : (b : Bool) (x : List ℕ) (n : ℕ) → length x ≡ n → total (cond b (x ∷ []) []) ≡ cond b n 0
one_or_none true x n e = omega (arith, e)
one_or_none false x n e = refl

added_total : (i : ℕ) (k : Bool) (core : Core) (p answered sent : List ℕ) (v : Wait) → Outstanding v sent → total (added i k core v p answered sent) ≡ gained i k core v p answered
added_total i k core p answered sent wait.Nothing s = refl
added_total i k core p answered sent (wait.Data j at) s =
    one_or_none (stores i k core j at p answered) (payload_of p) (length (payload_of p)) refl
added_total i k core p answered sent (wait.Acknowledge j buffer n) s = one_or_none (acknowledges i k j buffer p) sent n s

-- ---- a bus call

module _ (core : Core) (w : Sound core) (lent : Lent) (i : ℕ) (k : Bool) (l : Ledger) (t : Told core i k l) where
  abbrev refused_as : Result Unit Refusal
  refused_as = lend_refusal core lent.memory lent.reply

  module _ (p : List ℕ) where
    abbrev o : Outcome
    o = the_core core lent (Packet p)

    packet_counted : refused_as ≡ Ok tt → Told o.core i k (told i k core (Packet p) (heard o) l)
    packet_counted z =
        record {
          counted_is = packet_gains core w lent p i k z ∙ ap₂ (λ (a b : ℕ). a + b) t.counted_is (sym (added_total i k core p (heard o) l.sent core.wait t.sent_is)) ∙ sym (sum_by-append length l.counted (added i k core core.wait p (heard o) l.sent));
          sent_is = packet_sent core w lent p l.sent z;
        }

    abbrev noted_as : Bool → Ledger
    noted_as b = cond b (told i k core (Packet p) (heard o) l) l

    packet_told : Told o.core i k (noted i k core (Packet p) o l)
    packet_told = pick refused_as refl
      where
        answered : Outcome → Bool
        answered x = eqb (refusal x.answer) 0

        pick : (r : Result Unit Refusal) → refused_as ≡ r → Told o.core i k (noted_as (answered o))
        pick (Ok done) z =
            subst (λ (b : Bool). Told o.core i k (noted_as b)) (sym (ap answered (call_accepted core lent p z))) (packet_counted z)
        pick (Err why) e =
            subst (λ (b : Bool). Told o.core i k (noted_as b)) (sym (ap answered (call_refused core lent p why e) ∙ not_done why))
            (subst (λ (x : Outcome). Told x.core i k l) (sym (call_refused core lent p why e)) t)

  either_way : (b : Bool) → cond b l l ≡ l
  either_way true = refl
  either_way false = refl

  timeout_told : Told (the_core core lent Timeout).core i k (noted i k core Timeout (the_core core lent Timeout) l)
  timeout_told =
      subst (Told (the_core core lent Timeout).core i k) (sym (either_way (eqb (refusal (the_core core lent Timeout).answer) 0)))
      (pick refused_as refl)
    where
      pick : (r : Result Unit Refusal) → refused_as ≡ r → Told (timeout_of core lent.memory lent.reply).core i k l
      pick (Ok done) z =
          subst (λ (x : state.Outcome bus.Answer). Told x.core i k l) (sym (timeout_accepted core lent.memory lent.reply z))
          (record { counted_is = timeout_same core w i k ∙ t.counted_is; sent_is = none_outstanding (timed_out core).wait l.sent (timeout_waits_not core) })
      pick (Err why) e = subst (λ (x : state.Outcome bus.Answer). Told x.core i k l) (sym (timeout_refused core lent.memory lent.reply why e)) t

  -- ---- every call

  pub call_told : (call : Call) → Told (the_core core lent call).core i k (noted i k core call (the_core core lent call) l)
  call_told (Start M speed) = start_told i k l M speed
  call_told (Configure j condition e) = configure_told core w lent i k l t j condition e
  call_told (Arm j buffer base length) = arm_told core w lent i k l t j buffer base length
  call_told (Disarm j buffer) = disarm_told core w lent i k l t j buffer
  call_told (SetHalt j) = set_halt_told core w lent i k l t j
  call_told (ClearHalt j) = clear_halt_told core w lent i k l t j
  call_told (SetAddress address) = set_address_told core w lent i k l t address
  call_told (BusReset speed) = bus_reset_told core w lent i k l t speed
  call_told (RecordEvents j) = record_events_told core w lent i k l t j
  call_told SystemEvents = system_events_told core w lent i k l t
  call_told (Packet p) = packet_told p
  call_told Timeout = timeout_told

-- ---- every run

pub run_told : (i : ℕ) (k : Bool) (gs : List Given) (core : Core) (l : Ledger) → Sound core → Told core i k l → Told (run the_core core gs) i k (ledger the_core i k core l gs)
run_told i k [] core l w t = t
run_told i k (g ∷ gs) core l w t =
    run_told i k gs (the_core core g.lent g.call).core (noted i k core g.call (the_core core g.lent g.call) l)
    (call_sound core g.lent g.call w)
    (call_told core w g.lent i k l t g.call)

pub done_by_history : DoneByHistory the_core
done_by_history =
    record {
      done_is = λ s gs i second. (run_told i second gs (the_core s.before s.lent (Start s.memory_size s.speed)).core (emptied blank) (start_sound s.memory_size s.speed) (start_told i second blank s.memory_size s.speed)).counted_is;
      stands = λ s gs lent i second j at p. stands (run_from the_core s gs) (run_sound s gs) lent i second j at p;
    }
