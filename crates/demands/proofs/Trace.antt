-- A trace that meets every hypothesis of demand 3, computed: packets and a handshake are lost, a packet is damaged, a payload is repeated, one meets
-- NAK, both buffers are filled and one again, the firmware calls between the packets, and another endpoint is served. Assumes nothing.
use Prim.Native.Nat.{ℕ}
use mathlib.Core.Path.{◌≡◌, refl}
use mathlib.Core.Bool.{Bool, true, false, ◌&&◌}
use mathlib.Core.List.{List, [], ◌∷◌}
use lib.Dec.{ltb, eqb}
use lib.ListN.{length}
use borrow.Author.Tests.{ltb-true, eqb-true}
use Rattle.laws.proofs.Bools.{both}
use Rattle.wire.specs.Crc.{step, after, bits, sent, check}
use Rattle.wire.specs.Pid.{kind_of, pid_of, pid_byte}
use Rattle.wire.specs.Token.{token_of}
use Rattle.wire.specs.Data.{packet, stretch, check_sent, right_check, verdict_of, payload_of}
use Rattle.state.specs.Ranges.{endpoint_fits, misplaced, mark_fits, live_fits, is_zero, record_fits}
use Rattle.state.specs.Served.{beside}
use Rattle.state.specs.Spans.{share_byte}
use Rattle.state.specs.Events.{record_bits}
use Rattle.state.specs.Sound.{is_sound}
use Rattle.firmware.specs.Answers.{settled}
use Rattle.firmware.specs.Records.{record_events_of}
use Rattle.firmware.specs.Buffers.{shares_byte, arm_of}
use Rattle.bus.specs.Active.{chosen, active, used_up, filled, acknowledged}
use Rattle.bus.specs.Tokens.{sending, on_in}
use Rattle.bus.specs.Search.{served_by, found_in}
use Rattle.bus.specs.Data.{marked, acceptance, taken, taking, after_out}
use Rattle.bus.specs.Idle.{meeting, no_wait}
use Rattle.bus.specs.Arrival.{is_data_first, is_ack, missed, data_step, timed_out, fulfilled, packet_step}
use Rattle.bus.specs.Calls.{packet_of, timeout_of}
use Rattle.demands.specs.Behaviour.{Lent, Call, Arm, RecordEvents, heard, Behaviour, the_core}
use Rattle.demands.specs.Demand2.{lends}
use Rattle.demands.specs.Host.{Setting, Happening, Firmware, Late, TokenArrives, DataArrives, DamagedArrives, OtherArrives, stored_by, out_token, is_our_token, opens, fails, World, begin, next, outcome}
use Rattle.demands.specs.Host as host
use Rattle.demands.specs.Demand3.{permits}
use Rattle.demands.specs.Exchange.{Fate, Arrives, Lost, Fails, Follows, Done, Remainder, Episode, Ours, Theirs, Calls, trace, AllFair, Proper, AllProper}
use Rattle.demands.proofs.Computing.{same_packets, same_packets_lem}
use Rattle.demands.proofs.Port.{port, lent, host}

-- ---- a test that computes, for `AllProper`

abbrev is_proper : Behaviour → Setting → World → Happening → Bool
is_proper B s w (Firmware l c) = permits B s w l c
is_proper B s w (Late l) = lends w.core l
is_proper B s w (TokenArrives l) = lends w.core l
is_proper B s w (DataArrives l h) = lends w.core l && ltb w.acknowledged (length s.payloads)
is_proper B s w (DamagedArrives l p h) = lends w.core l
is_proper B s w (OtherArrives l p) = lends w.core l

abbrev are_proper : Behaviour → Setting → World → List Happening → Bool
are_proper B s w [] = true
are_proper B s w (h ∷ hs) = is_proper B s w h && are_proper B s (next B s w h) hs

module _ (B : Behaviour) (s : Setting) where
  proper : (w : World) (h : Happening) → is_proper B s w h ≡ true → Proper B s w h
  proper w (Firmware l c) e = e
  proper w (Late l) e = e
  proper w (TokenArrives l) e = e
  proper w (DataArrives l h) e =
      let p = both (lends w.core l) (ltb w.acknowledged (length s.payloads)) e in
      (p.0, ltb-true w.acknowledged (length s.payloads) p.1)
  proper w (DamagedArrives l p h) e = e
  proper w (OtherArrives l p) e = e

  all_proper : (w : World) (hs : List Happening) → are_proper B s w hs ≡ true → AllProper B s w hs
  all_proper w [] e = tt
  all_proper w (h ∷ hs) e =
      let p = both (is_proper B s w h) (are_proper B s (next B s w h) hs) e in
      (proper w h p.0, all_proper (next B s w h) hs p.1)

-- ---- the trace

-- an exchange of the endpoint's: the fates of token and data, whether the handshake is heard, and the firmware's calls inside
abbrev ours : Fate → Fate → Bool → List (Lent × Call) → Episode
ours t d h cs =
    Ours (record { token_fate = t; inside = cs; data_fate = d; is_heard = h; lent_token = lent; lent_data = lent })

abbrev closed : Remainder
closed = record { inside = []; rest = Done }

abbrev pub episodes : List Episode
episodes =
    -- the first payload is stored in buffer 0, and its handshake is lost
    ours Arrives Arrives false []
    -- a token is lost, and the data packet falls into nothing
    ∷ ours Lost Arrives true []
    -- the IN endpoint of the same number sends its byte, and the host acknowledges it
    ∷ Theirs (105 ∷ 129 ∷ 88 ∷ []) lent (record { inside = []; rest = Follows (210 ∷ []) lent })
    -- the first payload again: a repeat, met with ACK
    ∷ ours Arrives Arrives true []
    -- the second payload's packet is damaged, and then lost
    ∷ ours Arrives (Fails (75 ∷ 1 ∷ 2 ∷ [])) true []
    ∷ ours (Fails (225 ∷ 129 ∷ 89 ∷ [])) Lost true []
    ∷ ours Arrives Lost true []
    -- it is stored in buffer 1
    ∷ ours Arrives Arrives true []
    -- a start of frame, and the third payload: both buffers are used, NAK
    ∷ Theirs (165 ∷ 0 ∷ 16 ∷ []) lent closed
    ∷ ours Arrives Arrives true []
    -- the firmware reads the events and arms buffer 0 again, the first of the two between token and data
    ∷ Calls ((lent, Arm 0 0 16 8) ∷ [])
    ∷ ours Arrives Arrives true ((lent, RecordEvents 0) ∷ [])
    ∷ []

pub fair : AllFair host episodes
unfolding is_our_token opens fails token_of verdict_of right_check check_sent stretch pid_of kind_of pid_byte step after bits sent check
fair =
    ((tt, tt), ((tt, tt), ((refl, (refl, refl)), ((tt, tt), ((tt, refl), ((refl, tt), ((tt, tt), ((tt, tt), ((refl, refl), ((tt, tt), (tt, ((tt, tt), tt))))))))))))

-- what is heard behind each of its happenings
abbrev pub answers : Setting → World → List Happening → List (List ℕ)
answers s w [] = []
answers s w (h ∷ hs) = heard (outcome the_core s w h) ∷ answers s (next the_core s w h) hs

-- nothing, and ACK, which the host does not hear; nothing; data, and nothing; ACK for the repeat; nothing for what is damaged, lost or late; ACK;
-- nothing for the SOF; NAK; nothing for the arming; ACK
abbrev pub heard_there : List (List ℕ)
heard_there =
    [] ∷ (210 ∷ []) ∷ [] ∷ (195 ∷ 0 ∷ 64 ∷ 191 ∷ []) ∷ [] ∷ [] ∷ (210 ∷ []) ∷ [] ∷ [] ∷ [] ∷ [] ∷ [] ∷ [] ∷ (210 ∷ []) ∷ [] ∷ [] ∷ (90 ∷ []) ∷ [] ∷ [] ∷ [] ∷ (210 ∷ []) ∷ []

abbrev end : World
end = host.after the_core host (begin port) (trace closed episodes)

record Computed : Type 0 where
  proper_there : are_proper the_core host (begin port) (trace closed episodes) ≡ true
  acknowledged_there : eqb end.acknowledged 3 ≡ true
  stored_there : same_packets end.stored (host).payloads ≡ true
  answered_there : same_packets (answers host (begin port) (trace closed episodes)) heard_there ≡ true

computed : Computed
unfolding out_token heard stored_by settled record_events_of record_bits arm_of shares_byte packet_of timeout_of packet_step fulfilled timed_out missed data_step is_data_first is_ack no_wait meeting found_in served_by on_in sending after_out taking taken marked acceptance filled used_up acknowledged active chosen is_sound record_fits live_fits is_zero beside share_byte endpoint_fits misplaced mark_fits token_of pid_of kind_of pid_byte verdict_of payload_of stretch right_check check_sent packet step after bits sent check
computed = record { proper_there = refl; acknowledged_there = refl; stored_there = refl; answered_there = refl }

pub proper_trace : AllProper the_core host (begin port) (trace closed episodes)
proper_trace = all_proper the_core host (begin port) (trace closed episodes) computed.proper_there

-- each payload is stored once, in order, and acknowledged
pub record Ends : Type 0 where
  pub all_acknowledged : end.acknowledged ≡ 3
  pub all_stored : end.stored ≡ (host).payloads
  pub answered : answers host (begin port) (trace closed episodes) ≡ heard_there

pub ends : Ends
ends =
    record {
      all_acknowledged = eqb-true end.acknowledged 3 computed.acknowledged_there;
      all_stored = same_packets_lem end.stored (host).payloads computed.stored_there;
      answered = same_packets_lem (answers host (begin port) (trace closed episodes)) heard_there computed.answered_there;
    }
