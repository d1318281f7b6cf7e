-- A store writes its stretch and no other byte, and a reply its first bytes and no later one. Assumes nothing.
use Prim.Native.Nat.{ℕ, ◌+◌, ◌≤◌}
use native.Mathlib.Omega.{arith}
use mathlib.Core.Path.{◌≡◌, refl, sym, ◌∙◌, ap, subst}
use mathlib.Core.Bool.{true}
use mathlib.Core.List.{List, [], ◌++◌}
use lib.ListN.{length, take, drop, length-append, length-drop}
use lib.Seq.{length-take-le, take-append_seam, drop-append_seam, drop-append-add}
use Rattle.std.proofs.lemmas.Option.{none-some}
use Rattle.std.specs.Prelude.{Option, Some, None, Result, Ok, Err}
use Rattle.refusals.specs.declared.Refusal.{Refusal}
use Rattle.wire.specs.Data.{payload_of}
use Rattle.state.specs.declared.Stage.{Stage}
use Rattle.state.specs.declared.Wait.TheVariants.{Data}
use Rattle.state.specs.declared.Core.{Core}
use Rattle.state.specs.Sound.{Sound}
use Rattle.bus.specs.declared.turn.Step.{Step}
use Rattle.bus.specs.Turn.{written, stored, laid}
use Rattle.bus.specs.Active.{acknowledged}
use Rattle.bus.specs.Arrival.{is_data_first, packet_step, timed_out, StoreWithin}
use Rattle.bus.specs.Calls.{Left, lend_refusal, settled, kept, carried, packet_of}
use Rattle.bus.proofs.Cases.{packet_by}
use Rattle.bus.proofs.KeepsSound.{timeout_sound}
use Rattle.bus.proofs.Steps.{idle_stores_nothing}
use Rattle.bus.proofs.Within.{packet_store_within}
use Rattle.bus.proofs.Lent.{lent, packet_accepted}

-- ---- the stretch that is written

module _ (memory payload : List ℕ) (place : ℕ) (within : place + length payload ≤ length memory) where
  front : length (take place memory) ≡ place
  front = length-take-le place memory (omega (arith, within))

  pub bytes_in_front : take place (written place payload memory) ≡ take place memory
  bytes_in_front =
      ap (λ (n : ℕ). take n (written place payload memory)) (sym front)
      ∙ take-append_seam (take place memory) (payload ++ drop (place + length payload) memory)

  from_place : drop place (written place payload memory) ≡ payload ++ drop (place + length payload) memory
  from_place =
      ap (λ (n : ℕ). drop n (written place payload memory)) (sym front)
      ∙ drop-append_seam (take place memory) (payload ++ drop (place + length payload) memory)

  pub bytes_there : take (length payload) (drop place (written place payload memory)) ≡ payload
  bytes_there = ap (take (length payload)) from_place ∙ take-append_seam payload (drop (place + length payload) memory)

  pub bytes_behind : drop (place + length payload) (written place payload memory) ≡ drop (place + length payload) memory
  bytes_behind =
      ap (λ (n : ℕ). drop (n + length payload) (written place payload memory)) (sym front)
      ∙ drop-append-add (take place memory) (payload ++ drop (place + length payload) memory) (length payload)
      ∙ drop-append_seam payload (drop (place + length payload) memory)

  pub same_size : length (written place payload memory) ≡ length memory
  same_size = simp (length-append, length-drop) (omega (arith, front, within))

-- ---- the bytes of the reply

module _ (bytes reply : List ℕ) where
  pub reply_first : take (length bytes) (laid bytes reply) ≡ bytes
  reply_first = take-append_seam bytes (drop (length bytes) reply)

  pub reply_later : drop (length bytes) (laid bytes reply) ≡ drop (length bytes) reply
  reply_later = drop-append_seam bytes (drop (length bytes) reply)

pub nothing_laid : (reply : List ℕ) → laid [] reply ≡ reply
nothing_laid reply = refl

-- ---- the memory of a call

-- a call that stores nothing, refused or not, leaves the memory
pub memory_kept : (core : Core) (memory reply p : List ℕ) → (packet_step core p).store ≡ None → (packet_of core memory reply p).memory ≡ memory
unfolding packet_of
memory_kept core memory reply p e = pick (lend_refusal core memory reply)
  where
    pick : (x : Result Unit Refusal) → (settled x (kept core memory reply) (carried (packet_step core p) (payload_of p) memory reply)).memory ≡ memory
    pick (Ok done) = ap (λ (s : Option ℕ). stored s (payload_of p) memory) e
    pick (Err why) = refl

-- only data that are awaited are stored
pub record DataAwaited (core : Core) (p : List ℕ) : Type 0 where
  pub record_index : ℕ
  pub after : Stage
  pub waits : core.wait ≡ Data record_index after
  pub data_first : is_data_first p ≡ true

abbrev OnlyAwaited : Core → List ℕ → Step → Type 0
OnlyAwaited core p x = (place : ℕ) → x.store ≡ Some place → DataAwaited core p

pub stored_awaited : (core : Core) → Sound core → (p : List ℕ) → OnlyAwaited core p (packet_step core p)
unfolding acknowledged
stored_awaited core w p =
    packet_by core p (OnlyAwaited core p) w
    (record {
      awaited_data = λ i s e d x place f. record { record_index = i; after = s; waits = e; data_first = d };
      awaited_ack = λ i b n e a x place f. absurd (none-some place f);
      idle = λ e place f. absurd (none-some place (sym (idle_stores_nothing (timed_out core) (timeout_sound core w) p) ∙ f));
    })

-- a call that stores writes the payload at its place, which is of the memory: so `bytes_in_front` and `bytes_behind` speak of it
pub stored_call : (core : Core) (memory reply p : List ℕ) (place : ℕ) → lend_refusal core memory reply ≡ Ok tt → (packet_step core p).store ≡ Some place
    → ((packet_of core memory reply p).memory ≡ written place (payload_of p) memory) × (place + length (payload_of p) ≤ length memory)
stored_call core memory reply p place z e =
    let l = lent core memory reply z in (
      ap (λ (x : Left). x.memory) (packet_accepted core memory reply p z) ∙ ap (λ (s : Option ℕ). stored s (payload_of p) memory) e,
      rw l.whole (subst (λ (s : Option ℕ). StoreWithin s (length (payload_of p)) core.memory_size) e (packet_store_within core l.sound p)),
    )
