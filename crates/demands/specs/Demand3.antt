-- Demand 3, of any behaviour: its hypotheses, each with the demand's words, and its claim.
use Rattle.std.specs.Prelude.{ℕ, suc, ◌<◌, ◌≤◌, ◌≡◌, ◌⊎◌, Bool, true, false, not, ◌&&◌, ◌||◌, is_some, List, [], ◌∷◌, ◌++◌, leb, eqb, length, take}
use Rattle.laws.specs.Lists.{all}
use Rattle.wire.specs.Data.{verdict_of}
use Rattle.state.specs.declared.Condition.TheVariants.{Normal}
use Rattle.state.specs.declared.Kind.TheVariants as kind
use Rattle.state.specs.declared.Core.{Core}
use Rattle.state.specs.Update.{record_at}
use Rattle.state.specs.Sound.{Sound}
use Rattle.firmware.specs.Records.{waits_on}
use Rattle.bus.specs.declared.active.Direction.TheVariants.{Out}
use Rattle.bus.specs.Active.{active}
use Rattle.demands.specs.Behaviour.{Lent, Call, Start, Configure, Arm, Disarm, SetHalt, ClearHalt, SetAddress, BusReset, RecordEvents, SystemEvents, Packet, Timeout, side_of, is_by_firmware, refusal, Behaviour}
use Rattle.demands.specs.Demand2.{lends}
use Rattle.demands.specs.Host.{Setting, Happening, Firmware, Late, TokenArrives, DataArrives, DamagedArrives, OtherArrives, This, is_this, is_another, is_our_token, fails, World, next, after, begin}

-- ---- "One bulk or interrupt OUT endpoint, freshly configured"

-- in a sound state the record plays the endpoint that the host knows; a record of kind OUT is bulk or interrupt, at either speed
pub record Plays (s : Setting) (core : Core) : Type 0 where
  pub sound : Sound core
  pub index_within : s.index < 16
  pub same_address : core.address ≡ s.address
  pub is_normal : (record_at core s.index).condition ≡ Normal
  pub is_out : (record_at core s.index).endpoint.kind ≡ kind.Out
  pub same_number : (record_at core s.index).endpoint.number ≡ s.endpoint
  -- "a list of payloads, none above the maximum"
  pub none_above : all (λ x. leb (length x) (record_at core s.index).endpoint.maximum) s.payloads ≡ true

-- the toggle is at DATA0, and the core does not wait on the record. Buffers, mark and events may be any: one that asked for none would be
-- met by a core that refuses to arm.
pub record Fresh (s : Setting) (core : Core) : Type 0 where
  pub plays : Plays s core
  pub unwaited : waits_on core.wait s.index ≡ false
  pub at_data0 : (record_at core s.index).toggles.out_side ≡ false

-- ---- what may happen

-- "the address stays, and no reset, halt set or cleared, or reconfiguration, by the firmware's call or the host's request
-- (SET_CONFIGURATION and SET_INTERFACE count), touches this one": a request of the host comes to the core as calls of the firmware
abbrev pub spares : Setting → Call → Bool
spares s (Start M speed) = false
spares s (Configure j condition e) = not (eqb j s.index)
spares s (Arm j buffer base length) = true
spares s (Disarm j buffer) = true
spares s (SetHalt j) = not (eqb j s.index)
spares s (ClearHalt j) = not (eqb j s.index)
spares s (SetAddress address) = eqb address s.address
spares s (BusReset speed) = false
spares s (RecordEvents j) = true
spares s SystemEvents = true
spares s (Packet p) = false
spares s Timeout = false

-- a call of the firmware's; a start is none: it is given no state that it could leave as it stood
abbrev pub is_firmware : Call → Bool
is_firmware c = is_by_firmware (side_of c)

-- a firmware call that spares the endpoint, or is refused
abbrev pub permits : Behaviour → Setting → World → Lent → Call → Bool
permits B s w l c = spares s c || is_firmware c && not (eqb (refusal (B w.core l c).answer) 0)

abbrev pub Allowed : Behaviour → Setting → World → Happening → Type 0
-- at any time, also between token and data
Allowed B s w (Firmware l c) = permits B s w l c ≡ true
-- "each packet or timeout call lends what refusals 2 and 3 ask"
Allowed B s w (Late l) = lends w.core l ≡ true
Allowed B s w (TokenArrives l) = lends w.core l ≡ true
-- while the host has a payload to send. "An exchange cut short .. is closed by the timeout call before the next token": so where the token
-- was lost, no exchange of another endpoint is still open
Allowed B s w (DataArrives l h) =
    (lends w.core l ≡ true) × (is_another w.exchange ≡ false) × (w.acknowledged < length s.payloads)
-- "or fails its check": any bytes that do
Allowed B s w (DamagedArrives l p h) = (lends w.core l ≡ true) × (fails p ≡ true)
-- "Other endpoints are served in between": any packet but a good OUT token for this endpoint, and behind the host's token no good data packet
-- but its own
Allowed B s w (OtherArrives l p) =
    (lends w.core l ≡ true) × (is_our_token s p ≡ false) × ((is_this w.exchange && is_some (verdict_of p)) ≡ false)

abbrev pub AllAllowed : Behaviour → Setting → World → List Happening → Type 0
AllAllowed B s w [] = Unit {0}
AllAllowed B s w (h ∷ hs) = Allowed B s w h × AllAllowed B s (next B s w h) hs

-- ---- the claim

-- the record finds an active buffer
abbrev pub Finds : Setting → World → Type 0
Finds s w = active Out (record_at w.core s.index) ≡ true

-- the firmware's calls between the two packets
abbrev pub calls : List (Lent × Call) → List Happening
calls [] = []
calls (c ∷ cs) = Firmware c.0 c.1 ∷ calls cs

-- the exchange whose three packets arrive
abbrev pub whole : Lent → List (Lent × Call) → Lent → List Happening
whole l cs l' = TokenArrives l ∷ (calls cs ++ (DataArrives l' true ∷ []))

pub record Kept (B : Behaviour) (s : Setting) (w : World) : Type 0 where
  -- "Then the payloads stored are always the first of the host's list, in order, each once"
  pub order : w.stored ≡ take (length w.stored) s.payloads
  -- "and are as many as the host holds acknowledged, or one more"
  pub count : (length w.stored ≡ w.acknowledged) ⊎ (length w.stored ≡ suc w.acknowledged)
  -- "Every exchange whose three packets arrive and which finds an active buffer moves the host on by exactly one payload": active when the
  -- data packet arrives,
  pub moves : (l : Lent) → Allowed B s w (DataArrives l true) → w.exchange ≡ This → Finds s w → (next B s w (DataArrives l true)).acknowledged ≡ suc w.acknowledged
  -- and active when the token arrives
  pub moves_from_token : (l : Lent) (cs : List (Lent × Call)) (l' : Lent) → AllAllowed B s w (whole l cs l') → Finds s w → (after B s w (whole l cs l')).acknowledged ≡ suc w.acknowledged

-- after every prefix of every trace
abbrev pub Demand3 : Behaviour → Type 0
Demand3 B =
    (s : Setting) (core : Core) (hs : List Happening) → Fresh s core → AllAllowed B s (begin core) hs → (n : ℕ) → Kept B s (after B s (begin core) (take n hs))

-- ---- the sentence that the project is for

-- "It acknowledged what it had not stored, and no rule in it said it could not": whatever the host holds acknowledged is stored, in its place of the list
pub record NoFalseAck (s : Setting) (w : World) : Type 0 where
  pub as_many : w.acknowledged ≤ length w.stored
  pub the_same : take w.acknowledged w.stored ≡ take w.acknowledged s.payloads
