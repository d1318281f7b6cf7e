-- Each fraud fails the statement that document 01 names against it, at a state or a trace of a few packets that is computed here. Assumes nothing.
use Prim.Native.Nat.{ℕ}
use native.Mathlib.Omega.{arith}
use mathlib.Core.Path.{◌≡◌, refl, sym, ap, subst, ◌∙◌}
use mathlib.Core.Logic.{⊎_elim}
use mathlib.Core.Bool.{Bool, true, false, false≢true}
use mathlib.Core.List.{List, [], ◌∷◌, ◌++◌}
use lib.Dec.{ltb, eqb}
use lib.ListN.{length, get_or, take}
use borrow.Author.Tests.{ltb-true, ltb-false, eqb-true}
use Rattle.std.specs.Prelude.{Some, None, Ok, Err}
use Rattle.wire.specs.declared.pid.Kind.TheVariants.{Data0}
use Rattle.wire.specs.Crc.{step, after, bits, sent, check}
use Rattle.wire.specs.Pid.{kind_of, pid_of, pid_byte}
use Rattle.wire.specs.Token.{token_of}
use Rattle.wire.specs.Data.{packet, stretch, check_sent, right_check, verdict_of, payload_of}
use Rattle.state.specs.declared.Stage.TheVariants as st
use Rattle.state.specs.declared.Descriptor.TheVariants.{Armed}
use Rattle.state.specs.declared.Wait.TheVariants.{Data}
use Rattle.state.specs.declared.Core.{Core}
use Rattle.state.specs.Update.{with_wait, with_record, with_buffers, record_at, buffer_of}
use Rattle.state.specs.Ranges.{endpoint_fits, misplaced, mark_fits, live_fits, is_zero, record_fits, done_of}
use Rattle.state.specs.Served.{beside}
use Rattle.state.specs.Spans.{share_byte}
use Rattle.state.specs.Sound.{is_sound}
use Rattle.state.proofs.Tested.{tested}
use Rattle.firmware.specs.Answers.{settled}
use Rattle.firmware.specs.Device.{start_of, set_address_of}
use Rattle.firmware.specs.Records.{in_use, served_elsewhere, configure_of}
use Rattle.firmware.specs.Buffers.{shares_byte, arm_of}
use Rattle.bus.specs.declared.active.Direction.TheVariants.{Out}
use Rattle.bus.specs.declared.Answer.TheVariants.{Silent, Reply, Sof}
use Rattle.bus.specs.Active.{chosen, active, used_up, filled}
use Rattle.bus.specs.Search.{served_by, found_in}
use Rattle.bus.specs.Data.{marked, acceptance, taken, taking, after_out}
use Rattle.bus.specs.Idle.{meeting, no_wait}
use Rattle.bus.specs.Arrival.{is_data_first, missed, data_step, timed_out, fulfilled, packet_step}
use Rattle.bus.specs.Calls.{packet_of}
use Rattle.demands.specs.Behaviour.{Packet, Answer, ToFirmware, ToBus, Outcome, heard, Behaviour, Given, run_from}
use Rattle.demands.specs.Demand2.{lends, is_acceptance, InTurn, StoreCase, NakCase, NotGoodCase, MarkCase}
use Rattle.demands.specs.History.{total, ledger_from, DoneByHistory}
use Rattle.demands.specs.Host.{Happening, TokenArrives, DataArrives, DamagedArrives, stored_by, out_token, fails, World, begin}
use Rattle.demands.specs.Host as host
use Rattle.demands.specs.Demand3.{AllAllowed, Kept, Demand3}
use Rattle.demands.specs.Frauds.{always_silent, refuses_all, acks_all, stores_first, invents_done, acks_broken, any_free}
use Rattle.demands.proofs.Computing.{same_packets, same_packets_lem}
use Rattle.demands.proofs.Port.{port, lent, host, beginning, set_up, port_fresh}

-- ---- states

-- the first data packet of the host, and the same with a check that fails
abbrev first : List ℕ
first = 195 ∷ 255 ∷ 0 ∷ 255 ∷ []

abbrev broken : List ℕ
broken = 195 ∷ 255 ∷ 0 ∷ 254 ∷ []

abbrev awaiting : Core
awaiting = with_wait port (Data 0 st.Out)

-- the marked buffer is used, and the other is not
abbrev marked_used : Core
marked_used = with_wait (with_record port 0 (with_buffers (record_at port 0) (Armed 16 8 8 true) (Armed 24 8 0 false))) (Data 0 st.Out)

-- ---- traces and runs

abbrev token : List Happening
token = TokenArrives lent ∷ []

abbrev exchange : List Happening
exchange = TokenArrives lent ∷ DataArrives lent true ∷ []

abbrev damaged : List Happening
damaged = TokenArrives lent ∷ DamagedArrives lent broken true ∷ []

abbrev world : Behaviour → List Happening → World
world B hs = host.after B host (begin port) hs

-- the host holds more acknowledged than were stored
abbrev few : World → Bool
few w = ltb (length w.stored) w.acknowledged

abbrev arriving : List ℕ → Given
arriving p = record { lent = lent; call = Packet p }

-- one payload of one byte, from the start on
abbrev one_payload : List Given
one_payload = set_up ++ (arriving (225 ∷ 129 ∷ 88 ∷ []) ∷ arriving first ∷ [])

abbrev invented : ℕ
invented = done_of (buffer_of (record_at (run_from (invents_done 0) beginning one_payload) 0) false)

abbrev by_history : ℕ
by_history = total (ledger_from (invents_done 0) 0 false beginning one_payload).counted

-- the byte that was counted and not stored is read as one
abbrev misread : List (List ℕ)
misread = (255 ∷ 0 ∷ []) ∷ []

abbrev chosen_freely : Outcome
chosen_freely = any_free 0 marked_used lent (Packet first)

-- what is computed, all at once
record Computed : Type 0 where
  sound_awaiting : is_sound awaiting ≡ true
  sound_marked_used : is_sound marked_used ≡ true
  good_first : verdict_of first ≡ Some Data0
  not_good_broken : verdict_of broken ≡ None
  short_first : ltb 8 (length (payload_of first)) ≡ false
  active_awaiting : active Out (record_at awaiting 0) ≡ true
  inactive_marked_used : active Out (record_at marked_used 0) ≡ false
  acks_all_allowed : AllAllowed acks_all host (begin port) exchange
  acks_all_few : few (world acks_all exchange) ≡ true
  first_only_allowed : AllAllowed (stores_first 0) host (begin port) (exchange ++ exchange)
  first_only_few : few (world (stores_first 0) (exchange ++ exchange)) ≡ true
  inventing_allowed : AllAllowed (invents_done 0) host (begin port) exchange
  inventing_misread : same_packets (world (invents_done 0) exchange).stored misread ≡ true
  too_much : ltb by_history invented ≡ true
  broken_allowed : AllAllowed acks_broken host (begin port) damaged
  broken_few : few (world acks_broken damaged) ≡ true
  broken_first : is_data_first broken ≡ true
  freely_acknowledged : eqb (get_or (heard chosen_freely) 0 0) 210 ≡ true
  freely_filled : eqb (done_of (buffer_of (record_at chosen_freely.core 0) true)) 1 ≡ true

computed : Computed
unfolding fails out_token heard stored_by settled start_of set_address_of configure_of arm_of in_use served_elsewhere shares_byte packet_of packet_step fulfilled timed_out missed data_step is_data_first no_wait meeting found_in served_by after_out taking taken marked acceptance filled used_up active chosen is_sound record_fits live_fits is_zero beside share_byte endpoint_fits misplaced mark_fits token_of pid_of kind_of pid_byte verdict_of payload_of stretch right_check check_sent packet step after bits sent check
computed =
    record {
      sound_awaiting = refl;
      sound_marked_used = refl;
      good_first = refl;
      not_good_broken = refl;
      short_first = refl;
      active_awaiting = refl;
      inactive_marked_used = refl;
      acks_all_allowed = (refl, ((refl, refl, omega arith), tt));
      acks_all_few = refl;
      first_only_allowed = (refl, ((refl, refl, omega arith), (refl, ((refl, refl, omega arith), tt))));
      first_only_few = refl;
      inventing_allowed = (refl, ((refl, refl, omega arith), tt));
      inventing_misread = refl;
      too_much = refl;
      broken_allowed = (refl, ((refl, refl), tt));
      broken_few = refl;
      broken_first = refl;
      freely_acknowledged = refl;
      freely_filled = refl;
    }

in_turn : InTurn awaiting lent 0 first
in_turn =
    record {
      sound = tested awaiting computed.sound_awaiting;
      lent_whole = refl;
      waits = refl;
      not_halted = refl;
      under_toggle = computed.good_first;
    }

in_turn_used : InTurn marked_used lent 0 first
in_turn_used =
    record {
      sound = tested marked_used computed.sound_marked_used;
      lent_whole = refl;
      waits = refl;
      not_halted = refl;
      under_toggle = computed.good_first;
    }

-- ---- what breaks a statement

-- one that would have to take the first payload is not heard to
unheard : (B : Behaviour) → is_acceptance (heard (B awaiting lent (Packet first))) ≡ false → StoreCase B → ⊥
unheard B e c =
    let t = (c awaiting lent 0 first in_turn computed.active_awaiting (ltb-false 8 (length (payload_of first)) computed.short_first)).0 in
    false≢true (sym e ∙ t)

-- the host's token arrives, and its data packet does not move it on
unmoved : (B : Behaviour) → eqb (world B exchange).acknowledged 0 ≡ true → lends (world B token).core lent ≡ true → active Out (record_at (world B token).core 0) ≡ true → Demand3 B → ⊥
unmoved B e l a d =
    let z : ◌≡◌ {A = ℕ} (world B exchange).acknowledged 1 = (d host port token port_fresh (refl, tt) 1).moves lent (l, refl, omega arith) refl a in
    omega (arith, z, eqb-true (world B exchange).acknowledged 0 e)

too_few : (B : Behaviour) (hs : List Happening) (n : ℕ) → take n hs ≡ hs → AllAllowed B host (begin port) hs → few (world B hs) ≡ true → Demand3 B → ⊥
too_few B hs n t a e d =
    let k = subst (λ (l : List Happening). Kept B host (world B l)) t (d host port hs port_fresh a n) in
    let l = ltb-true (length (world B hs).stored) (world B hs).acknowledged e in
    ⊎_elim (λ z. omega (arith, l, z)) (λ z. omega (arith, l, z)) k.count

-- ---- always silent, or refusing: a case of demand 2, and demand 3's progress

pub silent_stores_not : StoreCase always_silent → ⊥
unfolding heard
silent_stores_not = unheard always_silent refl

pub refusing_stores_not : StoreCase refuses_all → ⊥
unfolding heard
refusing_stores_not = unheard refuses_all refl

pub silent_moves_not : Demand3 always_silent → ⊥
unfolding heard
silent_moves_not = unmoved always_silent refl refl computed.active_awaiting

pub refusing_moves_not : Demand3 refuses_all → ⊥
unfolding heard
refusing_moves_not = unmoved refuses_all refl refl computed.active_awaiting

-- ---- ACK to all: demand 2 on NAK, and demand 3's stored list

not_nak : (B : Behaviour) → eqb (get_or (heard (B marked_used lent (Packet first))) 0 0) 210 ≡ true → NakCase B → ⊥
unfolding pid_byte
not_nak B e c =
    let z : get_or (heard (B marked_used lent (Packet first))) 0 0 ≡ 90 = ap (λ (l : List ℕ). get_or l 0 0) (c marked_used lent 0 first in_turn_used computed.inactive_marked_used).0 in
    omega (arith, z, eqb-true (get_or (heard (B marked_used lent (Packet first))) 0 0) 210 e)

pub acking_naks_not : NakCase acks_all → ⊥
unfolding heard is_data_first pid_of kind_of pid_byte
acking_naks_not = not_nak acks_all refl

pub acking_stores_not : Demand3 acks_all → ⊥
acking_stores_not = too_few acks_all exchange 2 refl computed.acks_all_allowed computed.acks_all_few

-- ---- the first payload only: after two exchanges one payload is stored of the two that the host holds acknowledged

pub first_only_stores_not : Demand3 (stores_first 0) → ⊥
first_only_stores_not = too_few (stores_first 0) (exchange ++ exchange) 4 refl computed.first_only_allowed computed.first_only_few

-- ---- invented done: done by history, and demand 3's stored list

pub inventing_counts_not : DoneByHistory (invents_done 0) → ⊥
inventing_counts_not d =
    let e = d.done_is beginning one_payload 0 false in
    omega (arith, e, ltb-true by_history invented computed.too_much)

pub inventing_stores_not : Demand3 (invents_done 0) → ⊥
inventing_stores_not d =
    let stored = (world (invents_done 0) exchange).stored in
    let z = same_packets_lem stored misread computed.inventing_misread in
    let k : Kept (invents_done 0) host (world (invents_done 0) exchange) = d host port exchange port_fresh computed.inventing_allowed 2 in
    let o = ap (λ (l : List (List ℕ)). length (get_or l 0 [])) (sym z ∙ (k.order ∙ ap (λ (l : List (List ℕ)). take (length l) (host).payloads) z)) in
    let y : ◌≡◌ {A = ℕ} 2 1 = o in
    omega (arith, y)

-- ---- ACK to a packet whose check fails: demand 2's case, and demand 3's stored list

abbrev replied_to : Answer → ℕ
replied_to (ToFirmware a) = 0
replied_to (ToBus (Ok Silent)) = 0
replied_to (ToBus (Ok (Reply bytes))) = bytes
replied_to (ToBus (Ok (Sof frame))) = 0
replied_to (ToBus (Err n)) = 0

pub broken_silent_not : NotGoodCase acks_broken → ⊥
unfolding is_data_first verdict_of right_check check_sent stretch pid_of kind_of step after bits sent check
broken_silent_not c =
    let z : ◌≡◌ {A = ℕ} 1 0 = ap replied_to (c awaiting lent 0 st.Out broken (tested awaiting computed.sound_awaiting) refl refl computed.broken_first computed.not_good_broken).0 in
    omega (arith, z)

pub broken_stores_not : Demand3 acks_broken → ⊥
broken_stores_not = too_few acks_broken damaged 2 refl computed.broken_allowed computed.broken_few

-- ---- any free buffer: demand 2 on NAK, and the order between the buffers

pub any_free_naks_not : NakCase (any_free 0) → ⊥
any_free_naks_not = not_nak (any_free 0) computed.freely_acknowledged

pub any_free_order_lost : MarkCase (any_free 0) → ⊥
any_free_order_lost c =
    let z : done_of (buffer_of (record_at chosen_freely.core 0) true) ≡ 0 = c marked_used lent 0 first (tested marked_used computed.sound_marked_used) refl refl in
    omega (arith, z, eqb-true (done_of (buffer_of (record_at chosen_freely.core 0) true)) 1 computed.freely_filled)
