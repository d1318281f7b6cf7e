-- A data packet is good exactly when it passes the four tests. Assumes nothing.
use mathlib.Core.Path.{◌≡◌, refl, sym, ap, ◌∙◌}
use mathlib.Core.Bool.{true, false≢true}
use mathlib.Core.List.{List, []}
use mathlib.Core.Logic.{◌⊎◌, inl, inr}
use Prim.Native.Nat.{ℕ, ◌≤◌}
use native.Mathlib.Omega.{arith}
use borrow.Author.Tests.{ltb-false, le-ltb, not-false}
use lib.ListN.{length, get_or}
use Rattle.laws.proofs.First.{given}
use Rattle.wire.specs.Pid.{kind_of, is_data, low, pid_of}
use Rattle.wire.specs.Data.{is_data_pid, stretch, behind, right_check, faults, verdict_of, payload_by, payload_of, place_by, DataRead, verdict_number, verdict_from}
use Rattle.wire.specs.declared.pid.Kind.{Kind}
use Rattle.wire.specs.declared.data.Packet.{Packet}
use Rattle.std.specs.Prelude.{Option, Some, None}
use Rattle.wire.proofs.Pids.{kind_number, checked_kind}

pub record Passed (s : List ℕ) (kind : Kind) : Type 0 where
  pub least : 3 ≤ length s
  pub most : length s ≤ 1027
  pub pid : is_data_pid (pid_of (get_or s 0 0)) ≡ true
  pub right : right_check s ≡ true
  pub named : kind_of (low (get_or s 0 0)) ≡ kind

-- a fault that was not found
later : {P R : Type 0} {k : Kind} → ((P × (◌≡◌ {A = Option Kind} None (Some k))) ⊎ R) → R
later (inl h) = let z : ◌≡◌ {A = ℕ} 0 1 = let e = h.1 in cc in absurd (omega arith)
later (inr r) = r

pub passed : (s : List ℕ) {kind : Kind} → verdict_of s ≡ Some kind → Passed s kind
unfolding verdict_of
passed s {kind} e =
    let short = later (given (faults s) (Some (kind_of (low (get_or s 0 0)))) (Some kind) e) in
    let long = later short.1 in
    let pid = later long.1 in
    let wrong = later pid.1 in
    let named = wrong.1 in
    record {
      least = ltb-false _ _ short.0;
      most = ltb-false _ _ long.0;
      pid = not-false _ pid.0;
      right = not-false _ wrong.0;
      named = cc;
    }

pub good : (s : List ℕ) {kind : Kind} → Passed s kind → verdict_of s ≡ Some kind
unfolding verdict_of
good s p = simp (le-ltb _ _ p.least, le-ltb _ _ p.most, p.pid, p.right, p.named)

-- of any other packet an empty payload
pub not_good_empty : (s : List ℕ) → verdict_of s ≡ None → payload_of s ≡ []
unfolding payload_of
not_good_empty s e = ap (λ (v : Option Kind). payload_by v s) e

-- what reading promises, by what the verdict says of the payload and of its place
pub found_read : (s : List ℕ) (place : ℕ × ℕ) (p : Packet) (v : Option Kind) → p.verdict ≡ v → verdict_of s ≡ v → p.payload.now ≡ payload_by v s → p.payload.ref_ptr ≡ place_by v place → DataRead s place p
unfolding payload_of
found_read s place p v given e payload at =
    record {
      verdict_given = given ∙ sym e;
      payload_given = payload ∙ sym (ap (λ (w : Option Kind). payload_by w s) e);
      itself = at ∙ sym (ap (λ (w : Option Kind). place_by w place) e);
    }

data_kind : (byte : ℕ) → is_data_pid (pid_of byte) ≡ true → is_data (kind_of (low byte)) ≡ true
data_kind byte = go (pid_of byte) refl
  where
    go : (pid : Option Kind) → pid_of byte ≡ pid → is_data_pid pid ≡ true → is_data (kind_of (low byte)) ≡ true
    go (Some kind) e h = ap is_data (checked_kind byte e) ∙ h
    go None e h = absurd (false≢true h)

-- the number that the C export lays down tells every verdict apart
pub verdict_numbered : (s : List ℕ) → verdict_from (verdict_number (verdict_of s)) ≡ verdict_of s
unfolding verdict_from kind_of
verdict_numbered s = go (verdict_of s) refl
  where
    go : (v : Option Kind) → verdict_of s ≡ v → verdict_from (verdict_number v) ≡ v
    go None e = refl
    go (Some kind) e =
        let p = passed s e in
        let is : is_data kind ≡ true = rw p.named at (data_kind (get_or s 0 0) p.pid) in
        rw (kind_number kind, is)
