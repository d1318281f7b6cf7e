-- Bytes laid over a stretch of the memory, or from the first byte of the reply buffer. Assumes nothing.
use Prim.Native.Nat.{ℕ, ◌+◌, ◌≤◌}
use native.Mathlib.Omega.{arith}
use mathlib.Core.Path.{◌≡◌, refl, sym, ◌∙◌, ap}
use mathlib.Core.Bool.{Bool, true, false}
use mathlib.Core.List.{List, ◌++◌}
use lib.ListN.{length, take, drop, length-append, length-drop}
use lib.Seq.{length-take-le}
use borrow.Author.Tests.{le-ltb}
use Rattle.std.proofs.Common.{append_assoc}
use Rattle.std.proofs.lemmas.List.{drop-append-le, take-append-drop}
use Rattle.std.specs.Prelude.{Result, Ok}
use Rattle.refusals.specs.declared.Refusal.{Refusal}
use Rattle.wire.specs.Pid.{kind_of, is_data}
use Rattle.wire.specs.Data.{packet, write_refusal, write_of, buffer_by, buffer_after}
use Rattle.bus.specs.declared.turn.Says.{Says}
use Rattle.bus.specs.declared.turn.Says.TheVariants.{Silence, Ack, Nak, Stall, Nyet, Data, Frame}
use Rattle.bus.specs.Answers.{SaysWithin}
use Rattle.bus.specs.Turn.{data_pid, said, laid}

-- the writer takes what is sent, and lays the packet from the first byte
packet_length : (pid : ℕ) (payload : List ℕ) → length (packet pid payload) ≡ length payload + 3
unfolding packet
packet_length pid payload = simp length-append (omega arith)

module _ (toggle : Bool) (payload reply : List ℕ) (room : 1027 ≤ length reply) (short : length payload ≤ 1024) where
  data_pid_lem : (t : Bool) → is_data (kind_of (data_pid t)) ≡ true
  unfolding kind_of
  data_pid_lem true = refl
  data_pid_lem false = refl

  pub sent : write_of (data_pid toggle) payload reply ≡ Ok (length payload + 3)
  unfolding write_of write_refusal
  sent = simp (le-ltb (length reply) 1027 room, data_pid_lem toggle, le-ltb 1024 (length payload) short)

  pub sent_bytes : buffer_after (data_pid toggle) payload reply ≡ laid (packet (data_pid toggle) payload) reply
  unfolding buffer_after
  sent_bytes =
      ap (λ (w : Result ℕ Refusal). buffer_by w (data_pid toggle) payload reply) sent
      ∙ ap (λ (n : ℕ). packet (data_pid toggle) payload ++ drop n reply) (sym (packet_length (data_pid toggle) payload))

-- so many bytes of the memory
pub cut_length : (memory : List ℕ) (from count : ℕ) → from + count ≤ length memory → length (take count (drop from memory)) ≡ count
cut_length memory from count h = let m = length-drop from memory in length-take-le count (drop from memory) (omega (arith, m, h))

pub sent_length : (pid : ℕ) (memory : List ℕ) (from count : ℕ) → from + count ≤ length memory → length (packet pid (take count (drop from memory))) ≡ count + 3
sent_length pid memory from count h = packet_length pid (take count (drop from memory)) ∙ ap (λ (n : ℕ). n + 3) (cut_length memory from count h)

-- what is laid in the first 1,027 bytes is laid in them all
pub laid_front : (bytes front reply : List ℕ) → length bytes ≤ 1027 → 1027 ≤ length reply → front ≡ take 1027 reply → laid bytes front ++ drop 1027 reply ≡ laid bytes reply
laid_front bytes front reply short room e =
    let n = length-take-le 1027 reply room in
    ap (λ (f : List ℕ). laid bytes f ++ drop 1027 reply) e
    ∙ append_assoc bytes (drop (length bytes) (take 1027 reply)) (drop 1027 reply)
    ∙ ap (λ (l : List ℕ). bytes ++ l)
    (sym (drop-append-le (length bytes) (take 1027 reply) (drop 1027 reply) (omega (arith, n, short))) ∙ ap (drop (length bytes)) (take-append-drop 1027 reply))

-- a reply has no more bytes than that
pub said_short : (says : Says) (memory : List ℕ) → SaysWithin says (length memory) → length (said says memory) ≤ 1027
said_short Silence memory w = omega arith
said_short Ack memory w = omega arith
said_short Nak memory w = omega arith
said_short Stall memory w = omega arith
said_short Nyet memory w = omega arith
said_short (Data toggle from count) memory w =
    let n = sent_length (data_pid toggle) memory from count w.0 in
    omega (arith, n, w.1)
said_short (Frame frame) memory w = omega arith
