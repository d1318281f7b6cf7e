-- A packet past 1,027 bytes is to the core what its first 1,028 are. Assumes nothing.
use Prim.Native.Nat.{ℕ, ◌<◌}
use native.Mathlib.Omega.{arith}
use mathlib.Core.Path.{◌≡◌, refl, sym, ◌∙◌, ap}
use mathlib.Core.Bool.{Bool, true, false}
use mathlib.Core.List.{List, []}
use lib.Dec.{ltb}
use lib.ListN.{length, get_or, take}
use lib.Seq.{length-take-le, take_all, get_or-take}
use borrow.Author.Tests.{ltb-true, ltb-false, lt-ltb, le-ltb, ne_eqb}
use Rattle.std.specs.Prelude.{Option, Some, None}
use Rattle.wire.specs.declared.pid.Kind as pid
use Rattle.wire.specs.Pid.{pid_of}
use Rattle.wire.specs.Token.{token_of}
use Rattle.wire.specs.Data.{is_data_pid, verdict_of, payload_of}
use Rattle.wire.proofs.Reading.{not_good_empty}
use Rattle.state.specs.declared.Stage.{Stage}
use Rattle.state.specs.declared.Wait.{Wait}
use Rattle.state.specs.declared.Wait.TheVariants as wait
use Rattle.state.specs.declared.Core.{Core}
use Rattle.state.specs.Update.{record_at}
use Rattle.bus.specs.Turn.{placed}
use Rattle.bus.specs.Idle.{first_pid, addressed, framed, by_kind, by_pid, meeting, met_by, no_wait}
use Rattle.bus.specs.Arrival.{is_data_first, is_ack, data_step, awaited, awaited_step, fulfilled, packet_step, timed_out}
use Rattle.bus.specs.Calls.{packet_of}
use Rattle.bus.specs.declared.idle.Met.{Met}
use Rattle.bus.proofs.Cases.{kind_by}
use Rattle.bus.proofs.Pids.{first}
use Rattle.bus.proofs.Steps.{same_turn}

-- ---- a packet past 1,027 bytes is no token, no ACK and no good data

module _ (p : List ℕ) (h : 1027 < length p) where
  pub long_token : token_of p ≡ None
  unfolding token_of
  long_token = rw (ne_eqb (length p) 3 (λ e. omega (arith, h, e)))

  pub long_ack : is_ack p ≡ false
  unfolding is_ack
  long_ack = rw (ne_eqb (length p) 1 (λ e. omega (arith, h, e)))

  pub long_verdict : verdict_of p ≡ None
  unfolding verdict_of
  long_verdict = simp (le-ltb (length p) 3 (omega (arith, h)), lt-ltb 1027 (length p) h)

  pub long_payload : payload_of p ≡ []
  long_payload = not_good_empty p long_verdict

-- ---- two of them that begin alike are the same packet to the core

module _ (p q : List ℕ) (h : 1027 < length p) (k : 1027 < length q) (e : get_or p 0 0 ≡ get_or q 0 0) where
  same_pid : first_pid p ≡ first_pid q
  same_pid = sym (first p (omega (arith, h))) ∙ ap pid_of e ∙ first q (omega (arith, k))

  same_token : token_of p ≡ token_of q
  same_token = long_token p h ∙ sym (long_token q k)

  same_ack : is_ack p ≡ is_ack q
  same_ack = long_ack p h ∙ sym (long_ack q k)

  same_data_first : is_data_first p ≡ is_data_first q
  unfolding is_data_first
  same_data_first = ap is_data_pid same_pid

  same_verdict : verdict_of p ≡ verdict_of q
  same_verdict = long_verdict p h ∙ sym (long_verdict q k)

  same_payload : payload_of p ≡ payload_of q
  same_payload = long_payload p h ∙ sym (long_payload q k)

  module _ (core : Core) where
    same_kind : (x : pid.Kind) → by_kind core x p ≡ by_kind core x q
    same_kind =
        kind_by core p q (λ (m n : Met). m ≡ n)
        (record { unmet = refl; a_token = λ a. ap (addressed core a) same_token; an_sof = ap framed same_token })

    same_by_pid : (x : Option pid.Kind) → by_pid core x p ≡ by_pid core x q
    same_by_pid None = refl
    same_by_pid (Some kind) = same_kind kind

    same_meeting : meeting core p ≡ meeting core q
    unfolding meeting
    same_meeting = ap (λ (x : Option pid.Kind). by_pid core x p) same_pid ∙ same_by_pid (first_pid q)

    same_no_wait : no_wait core p ≡ no_wait core q
    unfolding no_wait
    same_no_wait = ap (met_by core) same_meeting

    same_data_step : (i : ℕ) (stage : Stage) → data_step core i stage p ≡ data_step core i stage q
    unfolding data_step
    same_data_step i stage =
        ap (placed core i)
        (same_turn core.speed stage (record_at core i) (record_at core i) (verdict_of p) (verdict_of q) (length (payload_of p)) (length (payload_of q)) refl same_verdict (ap length same_payload))

    same_awaited_step : (v : Wait) → awaited_step v core p ≡ awaited_step v core q
    same_awaited_step wait.Nothing = refl
    same_awaited_step (wait.Data i stage) = same_data_step i stage
    same_awaited_step (wait.Acknowledge i buffer sent) = refl

    same_fulfilled : fulfilled core p ≡ fulfilled core q
    unfolding fulfilled
    same_fulfilled = same_awaited_step core.wait

  same_awaited : (v : Wait) → awaited v p ≡ awaited v q
  same_awaited wait.Nothing = refl
  same_awaited (wait.Data i stage) = same_data_first
  same_awaited (wait.Acknowledge i buffer sent) = same_ack

  same_step : (core : Core) → packet_step core p ≡ packet_step core q
  unfolding packet_step
  same_step core = rw (same_awaited core.wait, same_fulfilled core, same_no_wait (timed_out core))

  pub both_long : (core : Core) (memory reply : List ℕ) → packet_of core memory reply p ≡ packet_of core memory reply q
  unfolding packet_of
  both_long core memory reply = rw (same_step core, same_payload)

-- ---- a packet and its first bytes, as long as these are themselves too many

cut_alike : (n : ℕ) → 1027 < n → (core : Core) (memory reply p : List ℕ) → packet_of core memory reply p ≡ packet_of core memory reply (take n p)
cut_alike n m core memory reply p = pick (ltb n (length p)) refl
  where
    pick : (b : Bool) → ltb n (length p) ≡ b → packet_of core memory reply p ≡ packet_of core memory reply (take n p)
    pick true e =
        let past = ltb-true n (length p) e in
        let cut = length-take-le n p (omega (arith, past)) in
        both_long p (take n p) (omega (arith, m, past)) (omega (arith, m, cut)) (sym (get_or-take n p 0 0 (omega (arith, m)))) core memory reply
    pick false e = ap (packet_of core memory reply) (sym (take_all n p (ltb-false n (length p) e)))

pub long_alike : (core : Core) (memory reply p : List ℕ) → packet_of core memory reply p ≡ packet_of core memory reply (take 1028 p)
long_alike = cut_alike 1028 (omega arith)
