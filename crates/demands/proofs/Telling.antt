-- A call of the firmware keeps the done count of a buffer and the total of its ledger alike: what it zeroes, the history forgets. Assumes nothing.
use Prim.Native.Nat.{ℕ, zero, suc, ◌<◌}
use native.Mathlib.Omega.{arith}
use mathlib.Core.Path.{◌≡◌, refl, sym, ◌∙◌, ap, subst}
use mathlib.Core.Bool.{Bool, true, false, ◌&&◌, cond, beq, and-true}
use mathlib.Core.List.{List, []}
use lib.Dec.{ltb, eqb}
use lib.ListN.{get_or, replicate}
use borrow.Author.Tests.{ltb-false, eq-eqb, ne_eqb}
use Rattle.laws.proofs.First.{Passed}
use Rattle.refusals.specs.declared.Refusal.{Refusal}
use Rattle.refusals.specs.Refusals.{number, judged}
use Rattle.refusals.proofs.Numbers.{number_positive}
use Rattle.state.specs.declared.Speed.{Speed}
use Rattle.state.specs.declared.Speed.TheVariants.{Full}
use Rattle.state.specs.declared.Condition.{Condition}
use Rattle.state.specs.declared.Condition.TheVariants.{Off, Normal, Halted}
use Rattle.state.specs.declared.Endpoint.{Endpoint}
use Rattle.state.specs.declared.Descriptor.{Descriptor}
use Rattle.state.specs.declared.Record.{Record}
use Rattle.state.specs.declared.Wait.{Wait}
use Rattle.state.specs.declared.Wait.TheVariants as wait
use Rattle.state.specs.declared.Core.{Core}
use Rattle.state.specs.declared.Outcome as state
use Rattle.state.specs.Update.{off_record, with_buffer, started, record_at, with_record}
use Rattle.state.specs.Ranges.{done_of}
use Rattle.state.specs.Sound.{Sound}
use Rattle.firmware.specs.Answers.{accepted, refused, settled}
use Rattle.firmware.specs.Device.{start_tests, start_of, address_tests, set_address_of, sound_tests, after_reset, bus_reset_of, system_events_of}
use Rattle.firmware.specs.Records.{index_tests, configure_tests, configured, configure_of, halt_tests, set_halt_of, clear_halt_of, record_events_of}
use Rattle.firmware.specs.Buffers.{is_second, arm_tests, arm_of, disarm_tests, disarm_of}
use Rattle.firmware.proofs.Refusals.{settled_by}
use Rattle.demands.specs.Behaviour.{Lent, Call, Configure, Arm, Disarm, SetHalt, ClearHalt, SetAddress, BusReset, RecordEvents, SystemEvents, heard, by_firmware, side_of, is_anew, the_core}
use Rattle.demands.specs.History.{Ledger, emptied, told, noted, total}
use Rattle.demands.proofs.Counts.{done, done_in, Same, each_after, same_after}
use Rattle.demands.proofs.LastSent.{Outstanding, none_outstanding}

-- the count is the total, and the length whose ACK is awaited is that of the payload sent last
pub record Told (core : Core) (i : ℕ) (k : Bool) (l : Ledger) : Type 0 where
  pub counted_is : done_in core i k ≡ total l.counted
  pub sent_is : Outstanding core.wait l.sent

-- ---- all records off

off_at : (n i : ℕ) → get_or (replicate n off_record) i off_record ≡ off_record
off_at zero i = refl
off_at (suc n) zero = refl
off_at (suc n) (suc i) = off_at n i

off_done : (i : ℕ) (k : Bool) (core : Core) → core.records ≡ replicate 16 off_record → done_in core i k ≡ 0
off_done i k core e = ap (λ (l : List Record). done (get_or l i off_record) k) e ∙ ap (λ (r : Record). done r k) (off_at 16 i) ∙ nothing k
  where
    nothing : (b : Bool) → done off_record b ≡ 0
    nothing true = refl
    nothing false = refl

all_off_told : (i : ℕ) (k : Bool) (l : Ledger) (core : Core) → core.records ≡ replicate 16 off_record → core.wait ≡ wait.Nothing → Told core i k (emptied l)
all_off_told i k l core e f = record { counted_is = off_done i k core e; sent_is = none_outstanding core.wait l.sent f }

-- ---- a call of the firmware is accepted or refused

pub start_told : (i : ℕ) (k : Bool) (l : Ledger) (M : ℕ) (speed : Speed) → Told (start_of M speed).core i k (emptied l)
unfolding start_of
start_told i k l M speed =
    settled_by (λ (o : state.Outcome ℕ). Told o.core i k (emptied l)) (start_tests M) (started 0 Full) (started M speed) 0
    (λ p. all_off_told i k l (started M speed) refl refl)
    (λ why. all_off_told i k l (started 0 Full) refl refl)

-- an index above 15 is refused
below_16 : (j : ℕ) → ltb 15 j ≡ false → j < 16
below_16 j e = omega (arith, ltb-false 15 j e)

-- no refusal is done
pub not_done : (why : Refusal) → eqb (number why) 0 ≡ false
not_done why = ne_eqb (number why) 0 (λ e. omega (arith, number_positive why, e))

-- ---- what a call gives anew has nothing done

nothing_done : (condition : Condition) (e : Endpoint) (b : Bool) → done (configured condition e) b ≡ 0
nothing_done Off e true = refl
nothing_done Off e false = refl
nothing_done Normal e true = refl
nothing_done Normal e false = refl
nothing_done Halted e true = refl
nothing_done Halted e false = refl

buffer_done : (r : Record) (second b : Bool) (d : Descriptor) → done_of d ≡ 0 → done (with_buffer r second d) b ≡ cond (beq b second) 0 (done r b)
buffer_done r true true d e = e
buffer_done r true false d e = refl
buffer_done r false true d e = refl
buffer_done r false false d e = e

module _ (core : Core) (w : Sound core) (lent : Lent) (i : ℕ) (k : Bool) (l : Ledger) (t : Told core i k l) where
  settled_told : (call : Call) → is_anew (side_of call) ≡ false → (tests : List (Bool × Refusal)) (after : Core) (n : ℕ) → (Passed tests → (answered : List ℕ) → Told after i k (told i k core call answered l)) → let o = settled (judged tests) core after n in Told o.core i k (noted i k core call (by_firmware lent o) l)
  settled_told call s tests after n f =
      settled_by (λ (o : state.Outcome ℕ). Told o.core i k (noted i k core call (by_firmware lent o) l)) tests core after n
      (λ p. subst (Told after i k) (sym (ap (λ (b : Bool). cond b (emptied l) (told i k core call (heard (by_firmware lent (accepted after n))) l)) s)) (f p (heard (by_firmware lent (accepted after n)))))
      (λ why. subst (Told core i k) (sym (ap (λ (b : Bool). cond b (emptied l) (cond (eqb (number why) 0) (told i k core call (heard (by_firmware lent (refused core why))) l) l)) s ∙ ap (λ (b : Bool). cond b (told i k core call (heard (by_firmware lent (refused core why))) l) l) (not_done why))) t)

  -- ---- one record

  -- no buffer is armed anew or disarmed
  kept : (j : ℕ) → j < 16 → (q : Record) → Same (record_at core j) q → Told (with_record core j q) i k l
  kept j h q s = record { counted_is = same_after core w j h q s i k ∙ t.counted_is; sent_is = t.sent_is }

  -- one is, or both
  emptied_where : (c : Core) (b : Bool) → c.wait ≡ core.wait → done_in c i k ≡ cond b 0 (done_in core i k) → Told c i k (cond b (emptied l) l)
  emptied_where c true v e = record { counted_is = e; sent_is = subst (λ (x : Wait). Outstanding x l.sent) (sym v) t.sent_is }
  emptied_where c false v e =
      record { counted_is = e ∙ t.counted_is; sent_is = subst (λ (x : Wait). Outstanding x l.sent) (sym v) t.sent_is }

  given_anew : (j : ℕ) → j < 16 → (q : Record) (b : Bool) → done q k ≡ cond b 0 (done_in core j k) → Told (with_record core j q) i k (cond (eqb j i && b) (emptied l) l)
  given_anew j h q b e =
      emptied_where (with_record core j q) (eqb j i && b) refl
      (each_after core w j h q i (λ (m : ℕ) (x : Record). done x k ≡ cond (eqb j m && b) 0 (done_in core m k))
      (e ∙ sym (ap (λ (c : Bool). cond (c && b) 0 (done_in core j k)) (eq-eqb j j refl)))
      (λ n. sym (ap (λ (c : Bool). cond (c && b) 0 (done_in core i k)) (ne_eqb j i n))))

  abbrev After : Call → Type 0
  After call = Told (the_core core lent call).core i k (noted i k core call (the_core core lent call) l)

  pub configure_told : (j : ℕ) (condition : Condition) (e : Endpoint) → After (Configure j condition e)
  unfolding configure_of
  configure_told j condition e =
      settled_told (Configure j condition e) refl (configure_tests core j condition e) (with_record core j (configured condition e)) 0
      (λ p answered. subst (λ (b : Bool). Told (with_record core j (configured condition e)) i k (cond b (emptied l) l)) (and-true (eqb j i)) (given_anew j (below_16 j p.1.0) (configured condition e) true (nothing_done condition e k)))

  pub arm_told : (j buffer base length : ℕ) → After (Arm j buffer base length)
  unfolding arm_of
  arm_told j buffer base length =
      settled_told (Arm j buffer base length) refl (arm_tests core j buffer base length) _ 0
      (λ p answered. given_anew j (below_16 j p.1.0) _ (beq k (is_second buffer)) (buffer_done (record_at core j) (is_second buffer) k _ refl))

  pub disarm_told : (j buffer : ℕ) → After (Disarm j buffer)
  unfolding disarm_of
  disarm_told j buffer =
      settled_told (Disarm j buffer) refl (disarm_tests core j buffer) _ _
      (λ p answered. given_anew j (below_16 j p.1.0) _ (beq k (is_second buffer)) (buffer_done (record_at core j) (is_second buffer) k _ refl))

  pub set_halt_told : (j : ℕ) → After (SetHalt j)
  unfolding set_halt_of
  set_halt_told j =
      settled_told (SetHalt j) refl (halt_tests core j) _ 0 (λ p answered. kept j (below_16 j p.1.0) _ (λ b. refl))

  pub clear_halt_told : (j : ℕ) → After (ClearHalt j)
  unfolding clear_halt_of
  clear_halt_told j =
      settled_told (ClearHalt j) refl (halt_tests core j) _ 0 (λ p answered. kept j (below_16 j p.1.0) _ (λ b. refl))

  pub record_events_told : (j : ℕ) → After (RecordEvents j)
  unfolding record_events_of
  record_events_told j =
      settled_told (RecordEvents j) refl (index_tests core j []) _ _ (λ p answered. kept j (below_16 j p.1.0) _ (λ b. refl))

  -- ---- the core as a whole

  pub set_address_told : (address : ℕ) → After (SetAddress address)
  unfolding set_address_of
  set_address_told address =
      settled_told (SetAddress address) refl (address_tests core address) _ 0
      (λ p answered. record { counted_is = t.counted_is; sent_is = t.sent_is })

  pub system_events_told : After SystemEvents
  unfolding system_events_of
  system_events_told =
      settled_told SystemEvents refl (sound_tests core) _ _ (λ p answered. record { counted_is = t.counted_is; sent_is = t.sent_is })

  pub bus_reset_told : (speed : Speed) → After (BusReset speed)
  unfolding bus_reset_of
  bus_reset_told speed =
      settled_told (BusReset speed) refl (sound_tests core) (after_reset core speed) 0
      (λ p answered. all_off_told i k l (after_reset core speed) refl refl)
