-- What each change of a record does to the done counts of its two buffers. Assumes nothing.
use Prim.Native.Nat.{ℕ, ◌+◌, ◌<◌}
use native.Mathlib.Omega.{arith}
use native.Mathlib.Nat.{add-zero}
use mathlib.Core.Path.{◌≡◌, refl, sym, ◌∙◌, ap, subst}
use mathlib.Core.Logic.{inl, inr}
use mathlib.Core.Bool.{Bool, true, false, cond, beq, false≢true}
use lib.Dec.{ltb, eqb}
use Rattle.laws.proofs.Bools.{dec_eq}
use Rattle.state.specs.declared.RecordEvent.TheVariants.{ShortPacket}
use Rattle.state.specs.declared.Descriptor.{Descriptor}
use Rattle.state.specs.declared.Descriptor.TheVariants.{Unallocated, Armed}
use Rattle.state.specs.declared.Record.{Record}
use Rattle.state.specs.declared.Core.{Core}
use Rattle.state.specs.Update.{with_next, with_events, noted, buffer_of, with_buffer, record_at, with_record}
use Rattle.state.specs.Ranges.{is_armed, is_unused, done_of}
use Rattle.state.specs.Sound.{sends, Sound}
use Rattle.state.proofs.Updates.{record_given, other_record}
use Rattle.bus.specs.declared.active.Direction.TheVariants.{Out}
use Rattle.bus.specs.declared.token.Asks.{Asks}
use Rattle.bus.specs.declared.token.Asks.TheVariants as asks
use Rattle.bus.specs.declared.turn.Turn.{Turn}
use Rattle.bus.specs.Active.{chosen, left_of, grown, spent, used_up, filled, flipped_in, acknowledged}
use Rattle.bus.specs.Tokens.{sending, turn_of}
use Rattle.bus.specs.Data.{flipped_out, marked, taken}
use Rattle.bus.specs.Arrival.{timed_out}
use Rattle.bus.proofs.Turns.{ping_by, setup_by, in_by}
use Rattle.bus.proofs.Alone.{Ended, timeout_alone}

-- what is done of one of a record's buffers, and of a buffer of the core
abbrev pub done : Record → Bool → ℕ
done r second = done_of (buffer_of r second)

abbrev pub done_in : Core → ℕ → Bool → ℕ
done_in core i second = done (record_at core i) second

-- ---- an armed buffer

pub unused_armed : (d : Descriptor) → is_unused d ≡ true → is_armed d ≡ true
unused_armed Unallocated u = u
unused_armed (Armed base length done used) u = refl

pub sends_armed : (maximum sent : ℕ) (d : Descriptor) → sends maximum sent d ≡ true → is_armed d ≡ true
sends_armed maximum sent Unallocated e = e
sends_armed maximum sent (Armed base length done used) e = refl

grown_done : (d : Descriptor) (n : ℕ) → is_armed d ≡ true → done_of (grown d n) ≡ done_of d + n
grown_done Unallocated n a = absurd (false≢true a)
grown_done (Armed base length done used) n a = refl

spent_done : (d : Descriptor) → done_of (spent d) ≡ done_of d
spent_done Unallocated = refl
spent_done (Armed base length done used) = refl

-- ---- n bytes are counted to one buffer, and none to the other

-- what buffer k gains where n bytes are counted to buffer second
abbrev pub share : Bool → ℕ → Bool → ℕ
share second n k = cond (beq k second) n 0

abbrev pub Grows : Record → Record → Bool → ℕ → Type 0
Grows r q second n = (k : Bool) → done q k ≡ done r k + share second n k

used_same : (q : Record) (second k : Bool) → done (used_up q second) k ≡ done q k
unfolding used_up
used_same q false false = spent_done q.first
used_same q false true = refl
used_same q true false = refl
used_same q true true = spent_done q.second

module _ (r : Record) (second : Bool) (n : ℕ) (a : is_armed (buffer_of r second) ≡ true) where
  abbrev larger : Record
  larger = with_buffer r second (grown (buffer_of r second) n)

  given_grows : Grows r larger second n
  given_grows = go second a
    where
      go : (b : Bool) → is_armed (buffer_of r b) ≡ true → Grows r (with_buffer r b (grown (buffer_of r b) n)) b n
      go false a false = grown_done r.first n a
      go false a true = sym (add-zero (done_of r.second))
      go true a false = sym (add-zero (done_of r.first))
      go true a true = grown_done r.second n a

  pub filled_grows : Grows r (filled r second n) second n
  unfolding filled
  filled_grows k = pick (ltb (left_of (grown (buffer_of r second) n)) r.endpoint.maximum)
    where
      pick : (b : Bool) → done (cond b (used_up larger second) (with_next larger second)) k ≡ done r k + share second n k
      pick true = used_same larger second k ∙ given_grows k
      pick false = given_grows k

  pub acknowledged_grows : Grows r (acknowledged r second n).after second n
  unfolding acknowledged
  acknowledged_grows k = pick (eqb (left_of (grown (buffer_of r second) n)) 0)
    where
      pick : (b : Bool) → done (cond b (used_up (flipped_in larger) second) (flipped_in larger)) k ≡ done r k + share second n k
      pick true = used_same (flipped_in larger) second k ∙ given_grows k
      pick false = given_grows k

pub taken_grows : (r : Record) (n : ℕ) → is_armed (buffer_of r (chosen Out r)) ≡ true → Grows r (taken r n) (chosen Out r) n
unfolding taken marked
taken_grows r n a k = pick (ltb n (flipped_out q).endpoint.maximum)
  where
    q : Record
    q = filled r (chosen Out r) n

    pick : (b : Bool) → done (cond b (with_events (flipped_out q) (noted (flipped_out q).events ShortPacket)) (flipped_out q)) k ≡ done r k + share (chosen Out r) n k
    pick true = filled_grows r (chosen Out r) n a k
    pick false = filled_grows r (chosen Out r) n a k

-- ---- a token counts nothing

abbrev pub Same : Record → Record → Type 0
Same r q = (k : Bool) → done q k ≡ done r k

pub token_same : (r : Record) (a : Asks) (i : ℕ) → Same r (turn_of a i r).after
unfolding sending
token_same r asks.Out i k = refl
token_same r asks.Setup i k =
    setup_by r (λ (t : Turn). done t.after k ≡ done r k) i (record { at_control = λ c. refl; elsewhere = refl })
token_same r asks.Ping i k =
    ping_by r (λ (t : Turn). done t.after k ≡ done r k)
    (record { at_interrupt = refl; ping_stall = refl; ping_ack = λ a. refl; ping_nak = λ a. refl })
token_same r asks.In i k =
    in_by r (λ (t : Turn). done t.after k ≡ done r k) i (record { in_stall = refl; in_nak = λ a. refl; in_send = λ a. refl })

-- ---- one record of the core is given anew

module _ (core : Core) (w : Sound core) (j : ℕ) (h : j < 16) (q : Record) where
  -- what holds of the record that is given, and of every other as it was, holds of each
  pub each_after : (i : ℕ) (P : ℕ → Record → Type 0) → P j q → ((j ≡ i → ⊥) → P i (record_at core i)) → P i (record_at (with_record core j q) i)
  each_after i P here there = pick (dec_eq j i)
    where
      pick : Dec (j ≡ i) → P i (record_at (with_record core j q) i)
      pick (yes e) =
          subst (λ (m : ℕ). P m (record_at (with_record core j q) m)) e (subst (P j) (sym (record_given core j q (omega (arith, h, w.sixteen)))) here)
      pick (no n) = subst (P i) (sym (other_record core j i q (λ f. n (sym f)))) (there n)

  pub same_after : Same (record_at core j) q → (i : ℕ) (k : Bool) → done_in (with_record core j q) i k ≡ done_in core i k
  same_after s i k = each_after i (λ (m : ℕ) (x : Record). done x k ≡ done_in core m k) (s k) (λ n. refl)

-- ---- the wait that ends counts nothing

pub timeout_same : (core : Core) → Sound core → (i : ℕ) (k : Bool) → done_in (timed_out core) i k ≡ done_in core i k
timeout_same core w i k = go (timeout_alone core w i)
  where
    go : Ended core i (record_at (timed_out core) i) → done_in (timed_out core) i k ≡ done_in core i k
    go (inl e) = ap (λ (x : Record). done x k) e
    go (inr e) = ap (λ (x : Record). done x k) e.1
