-- Under one contract no function has two outcomes, what it laid down and every lent byte with them. One law, and a line for each function. Assumes nothing.
use Prim.Native.Nat.{ℕ}
use mathlib.Core.List.{List}
use lib.ListN.{length}
use Rattle.laws.proofs.Once.{Once, once}
use Rattle.wire.specs.Crc.{crc16}
use Rattle.wire.specs.Data.{verdict_of, verdict_number, payload_of, write_of, buffer_after}
use Rattle.refusals.specs.Refusals.{refusal, returned}
use Rattle.wire.specs.Token.{token_of}
use Rattle.exported.specs.Numbers.{token_number}
use Rattle.exported.specs.Scene.{set_up, sound_of}
use Rattle.exported.specs.Traffic.{played_times, waited, unanswered}

pub hnitbrek_crc16_once : (payload : List ℕ) → Once (crc16 payload)
hnitbrek_crc16_once payload = once _

-- the length, and the verdict
pub hnitbrek_read_once : (packet : List ℕ) → Once (length (payload_of packet)) × Once (verdict_number (verdict_of packet))
hnitbrek_read_once packet = (once _, once _)

-- the length, the refusal, and the buffer
pub hnitbrek_write_once : (pid : ℕ) (payload buffer : List ℕ) → Once (returned (write_of pid payload buffer)) × Once (refusal (write_of pid payload buffer)) × Once (buffer_after pid payload buffer)
hnitbrek_write_once pid payload buffer = (once _, once _, once _)

pub hnitbrek_token_once : (packet : List ℕ) → Once (token_number (token_of packet))
hnitbrek_token_once packet = once _

pub hnitbrek_sound_once : (maximum times : ℕ) → Once (sound_of (set_up maximum) times)
hnitbrek_sound_once maximum times = once _

-- the sum, the memory, and the reply buffer
module _ (maximum : ℕ) (memory reply : List ℕ) where
  pub hnitbrek_play_once : (list : List ℕ) (times : ℕ) → let s = played_times maximum list times (unanswered (set_up maximum) memory reply) in Once s.sum × Once s.memory × Once s.reply
  hnitbrek_play_once list times = (once _, once _, once _)

  pub hnitbrek_time_out_once : (packet : List ℕ) (times : ℕ) → let s = waited packet times (unanswered (set_up maximum) memory reply) in Once s.sum × Once s.memory × Once s.reply
  hnitbrek_time_out_once packet times = (once _, once _, once _)
