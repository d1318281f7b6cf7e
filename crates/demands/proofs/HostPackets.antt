-- How the packets of demand 3's host read: its token, its data packet, and a packet that fails its check. Assumes nothing.
use Prim.Native.Nat.{ℕ, ◌+◌, ◌-◌, ◌*◌, ◌/◌, ◌%◌, ◌≤◌}
use native.Mathlib.Nat.{mod-lt, zero-lt-suc}
use native.Mathlib.Omega.{arith}
use mathlib.Core.Path.{◌≡◌, refl, sym, ◌∙◌, ap}
use mathlib.Core.Bool.{Bool, true, false, not, ◌&&◌, ◌||◌, true≢false}
use mathlib.Core.List.{List, [], ◌∷◌}
use lib.Dec.{eqb}
use lib.ListN.{length, take, drop, replicate, length-append, length-replicate}
use lib.Seq.{take_at}
use borrow.Author.Tests.{eqb-true, eq-eqb, not-true}
use Rattle.std.specs.Prelude.{Option, Some, None, is_some, Result}
use Rattle.std.proofs.lemmas.Option.{none-some, cond_some}
use Rattle.laws.proofs.Bools.{both}
use Rattle.refusals.specs.declared.Refusal.{Refusal}
use Rattle.wire.specs.declared.pid.Kind.{Kind}
use Rattle.wire.specs.declared.pid.Kind.TheVariants as pid
use Rattle.wire.specs.declared.token.Token.{Token}
use Rattle.wire.specs.Crc.{crc5, check}
use Rattle.wire.specs.Pid.{number, kind_of, is_data, low, high, pid_of, pid_byte}
use Rattle.wire.specs.Token.{word, token_of}
use Rattle.wire.specs.Data.{packet, verdict_of, payload_of, buffer_by, buffer_after}
use Rattle.wire.proofs.Pids.{number_kind, kind_number, checked_kind}
use Rattle.wire.proofs.RoundTrip.{ReadsBack, round_trip}
use Rattle.bus.specs.Idle.{first_pid}
use Rattle.bus.specs.Arrival.{is_data_first, is_ack}
use Rattle.bus.proofs.Cases.{kind_of_toggle}
use Rattle.demands.specs.Host.{Setting, token_bits, out_token, for_address, for_endpoint, pid_is, is_our_token, opens, fails}

-- ---- a checked PID is its byte

pid_byte_lem : (b : ℕ) (k : Kind) → pid_of b ≡ Some k → b ≡ pid_byte (number k)
unfolding pid_of pid_byte
pid_byte_lem b k e =
    let is_low : number k ≡ b % 16 = ap number (sym (checked_kind b e)) ∙ number_kind (b % 16) (mod-lt b (zero-lt-suc 15)) in
    let is_high_lem : b / 16 ≡ 15 - b % 16 = eqb-true (high b) (15 - low b) (cond_some (eqb (high b) (15 - low b)) (kind_of (low b)) k e).0 in
    omega arith

pub pid_is_lem : (p : List ℕ) (k : Kind) → first_pid p ≡ Some k → pid_is k p ≡ true
pid_is_lem [] k e = absurd (none-some k e)
pid_is_lem (b ∷ p) k e = eq-eqb b (pid_byte (number k)) (pid_byte_lem b k e)

-- ---- the host's OUT token

module _ (s : Setting) where
  pub token_first : first_pid (out_token s) ≡ Some pid.Out
  unfolding out_token pid_of pid_byte kind_of
  token_first = refl

  pub token_no_data : is_data_first (out_token s) ≡ false
  unfolding is_data_first out_token pid_of pid_byte kind_of
  token_no_data = refl

  pub token_no_ack : is_ack (out_token s) ≡ false
  unfolding is_ack out_token
  token_no_ack = refl

  pub token_reads : s.address ≤ 127 → s.endpoint ≤ 15 → token_of (out_token s) ≡ Some (record { address = s.address; endpoint = s.endpoint; frame = s.address + 128 * s.endpoint })
  unfolding out_token token_of check
  token_reads a n =
      let t = s.address + 128 * s.endpoint in
      let bits = token_bits s.address s.endpoint in
      let whole : word (bits % 256) (bits / 256) ≡ bits = omega arith in
      let c : crc5 t ≤ 31 = omega arith in
      let frame_is : bits % 2048 ≡ t = omega arith in
      let check_is : bits / 2048 ≡ crc5 t = omega arith in
      let address_is : bits % 128 ≡ s.address = omega arith in
      let above : bits / 128 ≡ s.endpoint + 16 * crc5 t = omega arith in
      let endpoint_is : bits / 128 % 16 ≡ s.endpoint = rw above (omega arith) in
      rw (whole, frame_is, check_is, address_is, endpoint_is, eq-eqb (crc5 t) (crc5 t) refl)

-- ---- its data packet

is_data_lem : (toggle : Bool) → is_data (kind_of (number (kind_of_toggle toggle))) ≡ true
unfolding kind_of
is_data_lem true = refl
is_data_lem false = refl

-- what the writer lays in a buffer is the packet, so the packet reads back
abbrev blank : List ℕ
blank = replicate 1027 0

module _ (n : ℕ) (payload : List ℕ) (d : is_data (kind_of n) ≡ true) (short : length payload ≤ 1024) where
  laid : ReadsBack n payload blank
  laid = round_trip n payload d short blank (rw (length-replicate {A = ℕ} 1027 0) (omega arith))

  in_front_lem : take (length payload + 3) (buffer_after n payload blank) ≡ packet n payload
  unfolding buffer_after packet
  in_front_lem =
      let size : length (packet n payload) ≡ length payload + 3 = simp length-append (omega arith) in
      ap (λ (w : Result ℕ Refusal). take (length payload + 3) (buffer_by w n payload blank)) laid.written
      ∙ take_at (packet n payload) (drop (length payload + 3) blank) (length payload + 3) size

pub data_first : (toggle : Bool) (payload : List ℕ) → is_data_first (packet (number (kind_of_toggle toggle)) payload) ≡ true
unfolding is_data_first packet pid_of pid_byte kind_of
data_first true payload = refl
data_first false payload = refl

pub data_not_ours : (s : Setting) (toggle : Bool) (payload : List ℕ) → is_our_token s (packet (number (kind_of_toggle toggle)) payload) ≡ false
unfolding is_our_token packet pid_byte
data_not_ours s true payload = refl
data_not_ours s false payload = refl

pub data_opens_none : (s : Setting) (toggle : Bool) (payload : List ℕ) → opens s (packet (number (kind_of_toggle toggle)) payload) ≡ false
unfolding opens packet pid_byte
data_opens_none s true payload = refl
data_opens_none s false payload = refl

module _ (toggle : Bool) (payload : List ℕ) (short : length payload ≤ 1024) where
  abbrev n : ℕ
  n = number (kind_of_toggle toggle)

  pub data_reads : verdict_of (packet n payload) ≡ Some (kind_of_toggle toggle)
  data_reads =
      ap verdict_of (sym (in_front_lem n payload (is_data_lem toggle) short)) ∙ (laid n payload (is_data_lem toggle) short).verdict_back
      ∙ ap Some (kind_number (kind_of_toggle toggle))

  pub data_payload : payload_of (packet n payload) ≡ payload
  data_payload = ap payload_of (sym (in_front_lem n payload (is_data_lem toggle) short)) ∙ (laid n payload (is_data_lem toggle) short).payload_back

-- ---- a packet that fails its check

-- it is no token of this endpoint, opens no exchange, and is neither good data nor a good token
pub record Failing (s : Setting) (p : List ℕ) : Type 0 where
  pub not_ours : is_our_token s p ≡ false
  pub opens_none : opens s p ≡ false
  pub not_good : is_some (verdict_of p) ≡ false
  pub no_token : is_some (token_of p) ≡ false

pub failing : (s : Setting) (p : List ℕ) → fails p ≡ true → Failing s p
unfolding fails is_our_token opens
failing s p e =
    record {
      not_ours = unread (pid_is pid.Out p) (for_endpoint s) refl (token_of p) bad;
      opens_none = unread (pid_is pid.Out p || pid_is pid.Setup p) (for_address s) refl (token_of p) bad;
      not_good = not-true (is_some (verdict_of p)) parts.0;
      no_token = bad;
    }
  where
    parts : (not (is_some (verdict_of p)) ≡ true) × (not (is_some (token_of p)) ≡ true)
    parts = both (not (is_some (verdict_of p))) (not (is_some (token_of p))) e

    bad : is_some (token_of p) ≡ false
    bad = not-true (is_some (token_of p)) parts.1

    unread : (b : Bool) (f : Option Token → Bool) → f None ≡ false → (t : Option Token) → is_some t ≡ false → (b && f t) ≡ false
    unread true f z None g = z
    unread false f z None g = refl
    unread b f z (Some t) g = absurd (true≢false g)

pub verdict_not_good : (v : Option Kind) → is_some v ≡ false → v ≡ None
verdict_not_good None e = refl
verdict_not_good (Some k) e = absurd (true≢false e)
