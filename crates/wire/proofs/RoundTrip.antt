-- What the writer wrote reads back to the same PID and payload. Assumes nothing.
use mathlib.Core.Path.{◌≡◌, refl, sym, ap, ap₂, ◌∙◌}
use mathlib.Core.Bool.{true}
use mathlib.Core.List.{List, [], ◌∷◌, ◌++◌, append_assoc}
use Prim.Native.Nat.{ℕ, suc, ◌+◌, ◌-◌, ◌/◌, ◌%◌, ◌≤◌}
use native.Mathlib.Omega.{arith}
use borrow.Author.Tests.{le-ltb, eq-eqb}
use lib.ListN.{length, get_or, take, length-append}
use lib.Seq.{take_at, get_or_at}
use Rattle.wire.specs.Crc.{crc16}
use Rattle.wire.specs.Pid.{kind_of, is_data, pid_of, pid_byte}
use Rattle.wire.specs.Token.{word}
use Rattle.wire.specs.Data.{packet, is_data_pid, stretch, check_sent, right_check, verdict_of, payload_by, payload_of, verdict_number, write_refusal, write_of, buffer_by, buffer_after}
use Rattle.std.specs.Prelude.{Option, Some, Result, Ok}
use Rattle.wire.specs.declared.pid.Kind.{Kind}
use Rattle.refusals.specs.declared.Refusal.{Refusal}
use Rattle.wire.proofs.Pids.{data_small, number_kind}
use Rattle.wire.proofs.Reading.{good}

-- the writer answers a length, and so much of the buffer afterwards is good with this PID and payload
pub record ReadsBack (pid : ℕ) (payload buffer : List ℕ) : Type 0 where
  pub written : write_of pid payload buffer ≡ Ok (length payload + 3)
  pub verdict_back : verdict_of (take (length payload + 3) (buffer_after pid payload buffer)) ≡ Some (kind_of pid)
  pub pid_back : verdict_number (Some (kind_of pid)) ≡ pid
  pub payload_back : payload_of (take (length payload + 3) (buffer_after pid payload buffer)) ≡ payload

module _ (pid : ℕ) (payload : List ℕ) where
  long : length (packet pid payload) ≡ length payload + 3
  unfolding packet
  long = simp length-append (omega arith)

  first : get_or (packet pid payload) 0 0 ≡ pid_byte pid
  unfolding packet
  first = refl

  inside : stretch (packet pid payload) ≡ payload
  unfolding packet stretch
  inside =
      let e : length payload ≡ length (packet pid payload) - 3 = omega (arith, long) in
      take_at payload (crc16 payload % 256 ∷ crc16 payload / 256 ∷ []) (length (packet pid payload) - 3) e

  ends : check_sent (packet pid payload) ≡ crc16 payload
  unfolding packet check_sent
  ends =
      let h = pid_byte pid in
      let lo = crc16 payload % 256 in
      let hi = crc16 payload / 256 in
      let n = length (packet pid payload) in
      let e : suc (length payload) ≡ n - 2 = omega (arith, long) in
      let f : suc (length (payload ++ (lo ∷ []))) ≡ n - 1 = simp length-append (omega (arith, long)) in
      ap₂ word (get_or_at (h ∷ payload) lo (hi ∷ []) 0 (n - 2) e)
      (ap (λ (l : List ℕ). get_or (h ∷ l) (n - 1) 0) (sym (append_assoc payload (lo ∷ []) (hi ∷ [])))
      ∙ get_or_at (h ∷ (payload ++ (lo ∷ []))) hi [] 0 (n - 1) f)
      ∙ omega arith

  right : right_check (packet pid payload) ≡ true
  unfolding right_check
  right = eq-eqb _ _ (ap crc16 inside ∙ sym ends)

  module _ (data_pid_lem : is_data (kind_of pid) ≡ true) (most : length payload ≤ 1024) where
    low_back : pid_byte pid % 16 ≡ pid
    unfolding pid_byte
    low_back = omega (arith, data_small pid data_pid_lem)

    pid_checked : is_data_pid (pid_of (pid_byte pid)) ≡ true
    unfolding pid_byte pid_of
    pid_checked =
        let e : pid_byte pid / 16 ≡ 15 - pid = omega (arith, data_small pid data_pid_lem) in
        simp (low_back, eq-eqb _ _ e) data_pid_lem

    read : verdict_of (packet pid payload) ≡ Some (kind_of pid)
    read =
        good (packet pid payload)
        (record {
          least = omega (arith, long);
          most = omega (arith, long);
          pid = rw first pid_checked;
          right = right;
          named = rw first (ap kind_of low_back);
        })

    read_payload : payload_of (packet pid payload) ≡ payload
    unfolding payload_of
    read_payload = ap (λ (v : Option Kind). payload_by v (packet pid payload)) read ∙ inside

    pub round_trip : (buffer : List ℕ) → 1027 ≤ length buffer → ReadsBack pid payload buffer
    unfolding write_refusal write_of buffer_after
    round_trip buffer room =
        let done : write_of pid payload buffer ≡ Ok (length payload + 3) =
        simp (le-ltb _ _ room, data_pid_lem, le-ltb _ _ most) in
        let front : take (length payload + 3) (buffer_after pid payload buffer) ≡ packet pid payload =
        ap (λ (w : Result ℕ Refusal). take (length payload + 3) (buffer_by w pid payload buffer)) done
        ∙ take_at (packet pid payload) _ (length payload + 3) long in
        record {
          written = done;
          verdict_back = ap verdict_of front ∙ read;
          pid_back = number_kind pid (data_small pid data_pid_lem);
          payload_back = ap payload_of front ∙ read_payload;
        }
