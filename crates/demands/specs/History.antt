-- "done is the length of the payloads stored since arming", read off the calls, their answers, and what the core awaited. No done count is looked at.
use Rattle.std.specs.Prelude.{ℕ, ◌≡◌, Bool, true, false, ◌&&◌, cond, Option, Some, None, List, [], ◌∷◌, ◌++◌, leb, eqb, length, take, drop, sum_by}
use Rattle.std.specs.Bool.{beq}
use Rattle.wire.specs.declared.pid.Kind.{Kind}
use Rattle.wire.specs.declared.pid.Kind.TheVariants as pid
use Rattle.wire.specs.Pid.{number}
use Rattle.wire.specs.Data.{stretch, verdict_of, payload_of}
use Rattle.state.specs.declared.Record.{Record}
use Rattle.state.specs.declared.Stage.{Stage}
use Rattle.state.specs.declared.Stage.TheVariants as stage
use Rattle.state.specs.declared.Wait.{Wait}
use Rattle.state.specs.declared.Wait.TheVariants as wait
use Rattle.state.specs.declared.Core.{Core}
use Rattle.state.specs.Update.{buffer_of, record_at}
use Rattle.state.specs.Ranges.{done_of}
use Rattle.firmware.specs.Buffers.{is_second}
use Rattle.bus.specs.declared.active.Direction.TheVariants.{Out}
use Rattle.bus.specs.Active.{chosen, place_of}
use Rattle.bus.specs.Arrival.{is_ack}
use Rattle.demands.specs.Behaviour.{Lent, Call, Start, Configure, Arm, Disarm, SetHalt, ClearHalt, SetAddress, BusReset, RecordEvents, SystemEvents, Packet, Timeout, side_of, is_anew, refusal, Outcome, heard, Behaviour, Given, Beginning, from, run_from}
use Rattle.demands.specs.Demand2.{is_acceptance, toggle_pid}

-- what the history says of one buffer
pub record Ledger : Type 0 where
  -- the payloads stored since arming (OUT side), or acknowledged since arming (IN side), in their order
  pub counted : List (List ℕ)
  -- the payload of the data packet that the core sent last, of whatever buffer
  pub sent : List ℕ

abbrev pub blank : Ledger
blank = record { counted = []; sent = [] }

abbrev pub emptied : Ledger → Ledger
emptied l = record { counted = []; sent = l.sent }

-- ---- a payload is stored

abbrev pub is_good_as : Kind → Option Kind → Bool
is_good_as k None = false
is_good_as k (Some k') = eqb (number k) (number k')

-- after SETUP the host sends DATA0; after OUT a packet whose PID is not the toggle is a repeat, and stored before
abbrev pub expected : Stage → Record → Kind
expected stage.Setup r = pid.Data0
expected stage.Out r = toggle_pid r

-- the core awaited this data packet for the record, and answered that it took it: it is in the buffer that document 01 calls active
abbrev pub stores : ℕ → Bool → Core → ℕ → Stage → List ℕ → List ℕ → Bool
stores i second core j s p answered =
    eqb j i
    && beq second (chosen Out (record_at core i))
    && is_good_as (expected s (record_at core i)) (verdict_of p)
    && is_acceptance answered

-- ---- a payload is acknowledged

-- the core awaited ACK for this buffer, and it arrived
abbrev pub acknowledges : ℕ → Bool → ℕ → Bool → List ℕ → Bool
acknowledges i second j buffer p = eqb j i && beq second buffer && is_ack p

-- what a packet adds, by what was awaited
abbrev pub added : ℕ → Bool → Core → Wait → List ℕ → List ℕ → List ℕ → List (List ℕ)
added i second core wait.Nothing p answered sent = []
added i second core (wait.Data j s) p answered sent = cond (stores i second core j s p answered) (payload_of p ∷ []) []
added i second core (wait.Acknowledge j buffer n) p answered sent = cond (acknowledges i second j buffer p) (sent ∷ []) []

-- three bytes and more are a data packet
abbrev pub sent_by : List ℕ → List ℕ → List ℕ
sent_by answered sent = cond (leb 3 (length answered)) (stretch answered) sent

-- ---- the calls

-- what an accepted call tells of the buffer
abbrev pub told : ℕ → Bool → Core → Call → List ℕ → Ledger → Ledger
told i second core (Start M speed) answered l = emptied l
told i second core (Configure j condition e) answered l = cond (eqb j i) (emptied l) l
told i second core (Arm j buffer base length) answered l = cond (eqb j i && beq second (is_second buffer)) (emptied l) l
told i second core (Disarm j buffer) answered l = cond (eqb j i && beq second (is_second buffer)) (emptied l) l
told i second core (SetHalt j) answered l = l
told i second core (ClearHalt j) answered l = l
told i second core (SetAddress address) answered l = l
told i second core (BusReset speed) answered l = emptied l
told i second core (RecordEvents j) answered l = l
told i second core SystemEvents answered l = l
told i second core (Packet p) answered l =
    record { counted = l.counted ++ added i second core core.wait p answered l.sent; sent = sent_by answered l.sent }
told i second core Timeout answered l = l

-- a refused call tells nothing, but a start begins anew, refused or not
abbrev pub noted : ℕ → Bool → Core → Call → Outcome → Ledger → Ledger
noted i second core call o l = cond (is_anew (side_of call)) (emptied l) (cond (eqb (refusal o.answer) 0) (told i second core call (heard o) l) l)

abbrev pub ledger : Behaviour → ℕ → Bool → Core → Ledger → List Given → Ledger
ledger B i second core l [] = l
ledger B i second core l (g ∷ gs) =
    let o = B core g.lent g.call in ledger B i second o.core (noted i second core g.call o l) gs

abbrev pub total : List (List ℕ) → ℕ
total xs = sum_by length xs

abbrev pub ledger_from : Behaviour → ℕ → Bool → Beginning → List Given → Ledger
ledger_from B i second s gs = ledger B i second s.before blank (from s gs)

-- ---- the statement

pub record DoneByHistory (B : Behaviour) : Type 0 where
  -- of every record and buffer, after every run from a start
  pub done_is : (s : Beginning) (gs : List Given) (i : ℕ) (second : Bool) → done_of (buffer_of (record_at (run_from B s gs) i) second) ≡ total (ledger_from B i second s gs).counted
  -- and a payload that is stored stands in the memory, as the call leaves it, behind those stored before it
  pub stands : (s : Beginning) (gs : List Given) (lent : Lent) (i : ℕ) (second : Bool) (j : ℕ) (at : Stage) (p : List ℕ) → let core = run_from B s gs in let o = B core lent (Packet p) in core.wait ≡ wait.Data j at → stores i second core j at p (heard o) ≡ true → take (length (payload_of p)) (drop (place_of (buffer_of (record_at core i) second)) o.lent.memory) ≡ payload_of p
