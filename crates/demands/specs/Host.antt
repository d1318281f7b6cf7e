-- Demand 3's host: "a host that sends a list of payloads, none above the maximum, from DATA0 on by the standard's toggle and retry rules",
-- what can happen on its bus, and what is stored by it.
use Rattle.std.specs.Prelude.{ℕ, zero, suc, ◌+◌, ◌-◌, ◌*◌, ◌/◌, ◌%◌, Bool, true, false, not, ◌&&◌, ◌||◌, cond, Option, Some, None, is_some, List, [], ◌∷◌, ◌++◌, ltb, eqb, get_or, take, drop}
use Rattle.std.specs.Bool.{beq}
use Rattle.wire.specs.declared.pid.Kind.{Kind}
use Rattle.wire.specs.declared.pid.Kind.TheVariants as pid
use Rattle.wire.specs.declared.token.Token.{Token}
use Rattle.wire.specs.Crc.{crc5}
use Rattle.wire.specs.Pid.{number, pid_byte}
use Rattle.wire.specs.Token.{token_of}
use Rattle.wire.specs.Data.{packet, verdict_of}
use Rattle.state.specs.declared.Descriptor.{Descriptor}
use Rattle.state.specs.declared.Descriptor.TheVariants.{Unallocated, Armed}
use Rattle.state.specs.declared.Record.{Record}
use Rattle.state.specs.declared.Wait.{Wait}
use Rattle.state.specs.declared.Wait.TheVariants as wait
use Rattle.state.specs.declared.Core.{Core}
use Rattle.state.specs.Update.{record_at}
use Rattle.demands.specs.Behaviour.{Lent, Call, Packet, Timeout, Outcome, heard, Behaviour}
use Rattle.demands.specs.Demand2.{is_acceptance}

-- ---- what a call stored, read off the record before and after it and off the memory that it left

-- the bytes by which a descriptor's done count grew
abbrev pub grown_by : Descriptor → Descriptor → List ℕ → List ℕ
grown_by Unallocated d memory = []
grown_by (Armed base length done used) Unallocated memory = []
grown_by (Armed base length done used) (Armed base' length' done' used') memory = take (done' - done) (drop (base + done) memory)

abbrev pub grew : Descriptor → Descriptor → Bool
grew Unallocated d = false
grew (Armed base length done used) Unallocated = false
grew (Armed base length done used) (Armed base' length' done' used') = ltb done done'

-- A call stored a payload where it flipped the toggle or moved a done count up. The toggle alone would miss a core that stores a repeat
-- again, and the done count alone an empty payload.
abbrev pub did_store : Record → Record → Bool
did_store r r' =
    not (beq r.toggles.out_side r'.toggles.out_side) || grew r.first r'.first || grew r.second r'.second

abbrev pub stored_in : Record → Record → List ℕ → List (List ℕ)
stored_in r r' memory =
    cond (did_store r r') ((grown_by r.first r'.first memory ++ grown_by r.second r'.second memory) ∷ []) []

unfoldable pub stored_by : ℕ → Core → Outcome → List (List ℕ)
stored_by i core o = stored_in (record_at core i) (record_at o.core i) o.lent.memory

-- ---- the host

-- the endpoint, as the host knows it, the record that plays it, and the payloads to send
pub record Setting : Type 0 where
  pub index : ℕ
  pub address : ℕ
  pub endpoint : ℕ
  pub payloads : List (List ℕ)

-- DATA0 and DATA1 in turn: an odd number of payloads acknowledged, and DATA1 is next
abbrev pub odd : ℕ → Bool
odd zero = false
odd (suc n) = not (odd n)

-- the sixteen bits of a token: address, endpoint and their check
abbrev pub token_bits : ℕ → ℕ → ℕ
token_bits address endpoint = address + 128 * endpoint + 2048 * crc5 (address + 128 * endpoint)

unfoldable pub out_token : Setting → List ℕ
out_token s =
    let w = token_bits s.address s.endpoint in pid_byte (number pid.Out) ∷ w % 256 ∷ w / 256 ∷ []

-- the data packet that the host sends where it holds k acknowledged: the payload after those. It is sent again until it is acknowledged.
abbrev pub data_packet : Setting → ℕ → List ℕ
data_packet s k = packet (number (cond (odd k) pid.Data1 pid.Data0)) (get_or s.payloads k [])

-- ---- what can happen

pub data Happening : Type 0 where
  -- a firmware call
  Firmware : Lent → Call → Happening
  -- the timeout call
  Late : Lent → Happening
  -- the host's OUT token for this endpoint arrives whole
  TokenArrives : Lent → Happening
  -- the host's data packet arrives whole; the core's answer is heard, or not at all
  DataArrives : Lent → Bool → Happening
  -- the host's data packet arrives as these bytes; the core's answer, if there is one, is heard or not
  DamagedArrives : Lent → List ℕ → Bool → Happening
  -- any other packet arrives: of other endpoints and functions, SOF, PING, a token that fails its check
  OtherArrives : Lent → List ℕ → Happening

abbrev pub lent_for : Happening → Lent
lent_for (Firmware l c) = l
lent_for (Late l) = l
lent_for (TokenArrives l) = l
lent_for (DataArrives l h) = l
lent_for (DamagedArrives l p h) = l
lent_for (OtherArrives l p) = l

abbrev pub call_for : Setting → ℕ → Happening → Call
call_for s k (Firmware l c) = c
call_for s k (Late l) = Timeout
call_for s k (TokenArrives l) = Packet (out_token s)
call_for s k (DataArrives l h) = Packet (data_packet s k)
call_for s k (DamagedArrives l p h) = Packet p
call_for s k (OtherArrives l p) = Packet p

-- the host moves on by one where it hears ACK or NYET behind its data packet
abbrev pub on_hearing : Bool → Outcome → ℕ → ℕ
on_hearing h o k = cond (h && is_acceptance (heard o)) (suc k) k

abbrev pub moves_on : Happening → Outcome → ℕ → ℕ
moves_on (Firmware l c) o k = k
moves_on (Late l) o k = k
moves_on (TokenArrives l) o k = k
moves_on (DataArrives l h) o k = on_hearing h o k
moves_on (DamagedArrives l p h) o k = on_hearing h o k
moves_on (OtherArrives l p) o k = k

-- ---- whose exchange is open, as the bus saw it

pub data Open : Type 0 where
  Nobody : Open
  -- this endpoint's: its OUT token arrived
  This : Open
  -- perhaps another's: another OUT or SETUP token for this address arrived
  Another : Open

abbrev pub for_address : Setting → Option Token → Bool
for_address s None = false
for_address s (Some token) = eqb token.address s.address

abbrev pub for_endpoint : Setting → Option Token → Bool
for_endpoint s None = false
for_endpoint s (Some token) = eqb token.address s.address && eqb token.endpoint s.endpoint

abbrev pub pid_is : Kind → List ℕ → Bool
pid_is k p = eqb (get_or p 0 0) (pid_byte (number k))

-- a good OUT token for this endpoint
unfoldable pub is_our_token : Setting → List ℕ → Bool
is_our_token s p = pid_is pid.Out p && for_endpoint s (token_of p)

-- a good OUT or SETUP token for this address: an exchange with data begins
unfoldable pub opens : Setting → List ℕ → Bool
opens s p = (pid_is pid.Out p || pid_is pid.Setup p) && for_address s (token_of p)

-- it fails its check: no good data packet, and no good token
unfoldable pub fails : List ℕ → Bool
fails p = not (is_some (verdict_of p)) && not (is_some (token_of p))

abbrev pub open_after : Setting → Open → Happening → Open
open_after s o (Firmware l c) = o
open_after s o (Late l) = Nobody
open_after s o (TokenArrives l) = This
open_after s o (DataArrives l h) = Nobody
open_after s o (DamagedArrives l p h) = Nobody
open_after s o (OtherArrives l p) = cond (opens s p) Another Nobody

abbrev pub is_this : Open → Bool
is_this Nobody = false
is_this This = true
is_this Another = false

abbrev pub is_another : Open → Bool
is_another Nobody = false
is_another This = false
is_another Another = true

-- ---- the world of a trace, and how it goes on

pub record World : Type 0 where
  pub core : Core
  pub exchange : Open
  -- how many payloads the host holds acknowledged
  pub acknowledged : ℕ
  -- the payloads stored so far
  pub stored : List (List ℕ)

abbrev pub outcome : Behaviour → Setting → World → Happening → Outcome
outcome B s w h = B w.core (lent_for h) (call_for s w.acknowledged h)

abbrev pub next : Behaviour → Setting → World → Happening → World
next B s w h =
    record {
      core = (outcome B s w h).core;
      exchange = open_after s w.exchange h;
      acknowledged = moves_on h (outcome B s w h) w.acknowledged;
      stored = w.stored ++ stored_by s.index w.core (outcome B s w h);
    }

abbrev pub after : Behaviour → Setting → World → List Happening → World
after B s w [] = w
after B s w (h ∷ hs) = after B s (next B s w h) hs

abbrev pub waits_for_data : Wait → Bool
waits_for_data wait.Nothing = false
waits_for_data (wait.Data i stage) = true
waits_for_data (wait.Acknowledge i buffer sent) = false

abbrev pub begin : Core → World
begin core =
    record { core = core; exchange = cond (waits_for_data core.wait) Another Nobody; acknowledged = 0; stored = [] }
