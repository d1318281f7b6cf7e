-- Document 01's example of the listing, computed: the replies line by line, and the done counts after the last. Assumes nothing.
use Prim.Native.Nat.{ℕ}
use mathlib.Core.Path.{◌≡◌, refl}
use mathlib.Core.List.{List, [], ◌∷◌, map}
use lib.ListN.{replicate, take, drop}
use Rattle.wire.specs.Crc.{step, after, bits, sent, check}
use Rattle.wire.specs.Pid.{kind_of, pid_of, pid_byte}
use Rattle.wire.specs.Token.{token_of}
use Rattle.wire.specs.Data.{packet, stretch, check_sent, right_check, verdict_of, payload_of}
use Rattle.state.specs.Ranges.{endpoint_fits, misplaced, mark_fits, live_fits, is_zero, record_fits, done_of}
use Rattle.state.specs.Served.{beside}
use Rattle.state.specs.Spans.{share_byte}
use Rattle.state.specs.Sound.{is_sound}
use Rattle.bus.specs.Active.{chosen, active, used_up, filled, acknowledged}
use Rattle.bus.specs.Tokens.{sending, on_in}
use Rattle.bus.specs.Search.{served_by, found_in}
use Rattle.bus.specs.Data.{marked, acceptance, taken, taking, after_out}
use Rattle.bus.specs.Idle.{meeting, no_wait}
use Rattle.bus.specs.Arrival.{is_data_first, is_ack, missed, data_step, timed_out, fulfilled, packet_step}
use Rattle.state.specs.declared.Core.{Core}
use Rattle.state.specs.Update.{record_at}
use Rattle.bus.specs.Answers.{replied}
use Rattle.bus.specs.Calls.{Left, packet_of}
use Rattle.listing.specs.SetUp.{set_up}

-- the calls one after the other, each given what the one before it left
abbrev played : Core → List ℕ → List (List ℕ) → List Left
played core memory [] = []
played core memory (p ∷ ps) =
    let l = packet_of core memory (replicate 1027 0) p in
    l ∷ played l.outcome.core l.memory ps

-- the bytes of a reply; none is printed as "-"
abbrev reply_of : Left → List ℕ
reply_of l = take (replied l.outcome.answer) l.reply

-- E18158, C3FF00FF, E18158, C3FF00FF, E18158, 4B0000, 698158, D2, 698158
abbrev lines : List (List ℕ)
lines =
    (225 ∷ 129 ∷ 88 ∷ [])
    ∷ (195 ∷ 255 ∷ 0 ∷ 255 ∷ [])
    ∷ (225 ∷ 129 ∷ 88 ∷ [])
    ∷ (195 ∷ 255 ∷ 0 ∷ 255 ∷ [])
    ∷ (225 ∷ 129 ∷ 88 ∷ [])
    ∷ (75 ∷ 0 ∷ 0 ∷ [])
    ∷ (105 ∷ 129 ∷ 88 ∷ [])
    ∷ (210 ∷ [])
    ∷ (105 ∷ 129 ∷ 88 ∷ [])
    ∷ []

abbrev listed : List Left
listed = played set_up (replicate 256 0) lines

-- -, D2, -, D2, -, 5A, C30040BF, -, 5A
pub replies : map reply_of listed ≡ [] ∷ (210 ∷ []) ∷ [] ∷ (210 ∷ []) ∷ [] ∷ (90 ∷ []) ∷ (195 ∷ 0 ∷ 64 ∷ 191 ∷ []) ∷ [] ∷ (90 ∷ []) ∷ []
unfolding set_up packet_of packet_step fulfilled timed_out missed data_step is_data_first is_ack no_wait meeting found_in served_by on_in sending after_out taking taken marked acceptance filled used_up acknowledged active chosen is_sound record_fits live_fits is_zero beside share_byte endpoint_fits misplaced mark_fits token_of pid_of kind_of pid_byte verdict_of payload_of stretch right_check check_sent packet step after bits sent check
replies = refl

-- out 1 in 1
pub counts : map (λ l. done_of (record_at l.outcome.core 0).first ∷ done_of (record_at l.outcome.core 1).first ∷ []) (drop 8 listed) ≡ (1 ∷ 1 ∷ []) ∷ []
unfolding set_up packet_of packet_step fulfilled timed_out missed data_step is_data_first is_ack no_wait meeting found_in served_by on_in sending after_out taking taken marked acceptance filled used_up acknowledged active chosen is_sound record_fits live_fits is_zero beside share_byte endpoint_fits misplaced mark_fits token_of pid_of kind_of pid_byte verdict_of payload_of stretch right_check check_sent packet step after bits sent check
counts = refl
