-- What a turn of each loop leaves is what the definitions say of one packet, one timeout or one pass more. Assumes nothing.
use Prim.Native.Nat.{ℕ, zero, suc, ◌+◌, ◌≤◌, ◌<◌}
use native.Mathlib.Omega.{arith}
use native.Mathlib.Numerals.{add-one}
use mathlib.Core.Path.{◌≡◌, ap}
use mathlib.Core.List.{List}
use lib.ListN.{length, drop, length-drop}
use borrow.Author.Tests.{le-leb, lt-leb}
use Rattle.state.specs.declared.Core.{Core}
use Rattle.state.specs.declared.Outcome.{Outcome}
use Rattle.bus.specs.declared.Answer.{Answer}
use Rattle.bus.specs.Calls.{packet_of, timeout_of, Leaves}
use Rattle.exported.specs.Traffic.{After, summed_of, arrived, ran_out, waited, first_in, played_in}

abbrev pub left : Core → ℕ → List ℕ → List ℕ → After
left core sum memory reply = record { core = core; sum = sum; memory = memory; reply = reply }

module _ (core : Core) (sum : ℕ) (memory reply : List ℕ) where
  pub arrives : (packet : List ℕ) (o : Outcome Answer) (m r : List ℕ) (n : ℕ) → Leaves (packet_of core memory reply packet) o m r → n ≡ summed_of sum o.answer r → left o.core n m r ≡ arrived (left core sum memory reply) packet
  unfolding arrived
  arrives packet o m r n a e = rw (e, a.outcome_given, a.memory_left, a.reply_left)

  pub runs_out : (o : Outcome Answer) (n : ℕ) → o ≡ timeout_of core memory reply → n ≡ summed_of sum o.answer reply → left o.core n memory reply ≡ ran_out (left core sum memory reply)
  unfolding ran_out
  runs_out o n a e = rw (e, a)

-- one packet and one timeout more
pub waited_more : (packet : List ℕ) (i : ℕ) (s now : After) → now ≡ waited packet i s → ran_out (arrived now packet) ≡ waited packet (i + 1) s
waited_more packet i s now e = rw (add-one i) (ap (λ (t : After). ran_out (arrived t packet)) e)

-- ---- the packets of a list

-- the packets that are left of a list, of which there are at most so many
pub record From (list : List ℕ) (now whole : After) : Type 0 where
  pub most : ℕ
  pub enough : length list ≤ most
  pub same : played_in most now list ≡ whole

module _ (list : List ℕ) (now whole : After) (f : From list now whole) where
  -- one packet more
  pub from_more : 2 ≤ length list → (packet later : List ℕ) → packet ≡ first_in list → later ≡ drop (2 + length packet) list → From later (arrived now packet) whole
  from_more h packet later e k = pick f.most f.enough f.same
    where
      pick : (most : ℕ) → length list ≤ most → played_in most now list ≡ whole → From later (arrived now packet) whole
      pick zero n s = absurd (omega arith)
      pick (suc most) n s =
          let more = le-leb 2 (length list) h in
          let fewer : length later ≤ most = rw (k, length-drop (2 + length packet) list) (omega arith) in
          record { most = most; enough = fewer; same = rw (more, ← e, ← k) at s }

  -- no packet is left
  pub from_none : length list < 2 → now ≡ whole
  from_none h = pick f.most f.same
    where
      pick : (most : ℕ) → played_in most now list ≡ whole → now ≡ whole
      pick zero s = s
      pick (suc most) s = rw (lt-leb 2 (length list) h) at s
