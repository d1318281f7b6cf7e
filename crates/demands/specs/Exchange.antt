-- Demand 3 in its own words: exchanges with the fates of their packets, and what goes on between them, as a trace of happenings.
use Rattle.std.specs.Prelude.{ℕ, ◌<◌, ◌≡◌, Bool, true, false, List, [], ◌∷◌, ◌++◌, length, take}
use Rattle.state.specs.declared.Core.{Core}
use Rattle.demands.specs.Behaviour.{Lent, Call, Behaviour}
use Rattle.demands.specs.Demand2.{lends}
use Rattle.demands.specs.Host.{Setting, Happening, Firmware, Late, TokenArrives, DataArrives, DamagedArrives, OtherArrives, is_our_token, opens, fails, World, next, after, waits_for_data, begin}
use Rattle.demands.specs.Demand3.{Fresh, permits, calls, Kept}

-- "Each packet arrives whole, is lost, or fails its check"
pub data Fate : Type 0 where
  Arrives : Fate
  Lost : Fate
  Fails : List ℕ → Fate

pub record Exchange : Type 0 where
  pub token_fate : Fate
  -- the firmware's calls between the two packets
  pub inside : List (Lent × Call)
  pub data_fate : Fate
  -- "each handshake is heard whole or not at all"
  pub is_heard : Bool
  -- what is lent to the call of each packet, or to the timeout call in its place
  pub lent_token : Lent
  pub lent_data : Lent

abbrev pub token_part : Fate → Lent → List Happening
token_part Arrives l = TokenArrives l ∷ []
token_part Lost l = []
token_part (Fails p) l = OtherArrives l p ∷ []

-- the data packet's part behind the token's: "an exchange cut short, and no other, is closed by the timeout call before the next token"
abbrev pub data_part : Fate → Fate → Bool → Lent → List Happening
data_part t Arrives h l = DataArrives l h ∷ []
data_part t (Fails p) h l = DamagedArrives l p h ∷ []
data_part Arrives Lost h l = Late l ∷ []
data_part Lost Lost h l = []
data_part (Fails q) Lost h l = []

abbrev pub happenings : Exchange → List Happening
happenings x =
    token_part x.token_fate x.lent_token
    ++ (calls x.inside ++ data_part x.token_fate x.data_fate x.is_heard x.lent_data)

-- ---- "Other endpoints are served in between"

-- how an exchange of another endpoint or function goes on
pub data Rest : Type 0 where
  Done : Rest
  Follows : List ℕ → Lent → Rest
  CutShort : Lent → Rest

pub record Remainder : Type 0 where
  pub inside : List (Lent × Call)
  pub rest : Rest

abbrev pub rest_part : Rest → List Happening
rest_part Done = []
rest_part (Follows p l) = OtherArrives l p ∷ []
rest_part (CutShort l) = Late l ∷ []

abbrev pub remaining : Remainder → List Happening
remaining m = calls m.inside ++ rest_part m.rest

pub data Episode : Type 0 where
  -- an exchange of this endpoint
  Ours : Exchange → Episode
  -- a packet of another endpoint or function, SOF or PING, and what follows it
  Theirs : List ℕ → Lent → Remainder → Episode
  Calls : List (Lent × Call) → Episode

abbrev pub played : Episode → List Happening
played (Ours x) = happenings x
played (Theirs p l m) = OtherArrives l p ∷ remaining m
played (Calls cs) = calls cs

abbrev pub episodes : List Episode → List Happening
episodes [] = []
episodes (x ∷ xs) = played x ++ episodes xs

-- where an exchange of another endpoint is open as this one is configured, it goes on first
abbrev pub trace : Remainder → List Episode → List Happening
trace m xs = remaining m ++ episodes xs

-- ---- what the demand asks of the packets

abbrev pub FailsCheck : Fate → Type 0
FailsCheck Arrives = Unit {0}
FailsCheck Lost = Unit {0}
FailsCheck (Fails p) = fails p ≡ true

-- an exchange with data is completed by a packet that opens none, or closed by the timeout call
abbrev pub Closed : Setting → Bool → Rest → Type 0
Closed s opened Done = opened ≡ false
Closed s opened (Follows q l) = (is_our_token s q ≡ false) × (opens s q ≡ false)
Closed s opened (CutShort l) = Unit {0}

abbrev pub Fair : Setting → Episode → Type 0
Fair s (Ours x) = FailsCheck x.token_fate × FailsCheck x.data_fate
Fair s (Theirs p l m) = (is_our_token s p ≡ false) × Closed s (opens s p) m.rest
Fair s (Calls cs) = Unit {0}

abbrev pub AllFair : Setting → List Episode → Type 0
AllFair s [] = Unit {0}
AllFair s (x ∷ xs) = Fair s x × AllFair s xs

-- ---- what the demand asks of the calls

-- a firmware call spares the endpoint or is refused; a packet or timeout call lends what refusals 2 and 3 ask; the host has a payload to send
abbrev pub Proper : Behaviour → Setting → World → Happening → Type 0
Proper B s w (Firmware l c) = permits B s w l c ≡ true
Proper B s w (Late l) = lends w.core l ≡ true
Proper B s w (TokenArrives l) = lends w.core l ≡ true
Proper B s w (DataArrives l h) = (lends w.core l ≡ true) × (w.acknowledged < length s.payloads)
Proper B s w (DamagedArrives l p h) = lends w.core l ≡ true
Proper B s w (OtherArrives l p) = lends w.core l ≡ true

abbrev pub AllProper : Behaviour → Setting → World → List Happening → Type 0
AllProper B s w [] = Unit {0}
AllProper B s w (h ∷ hs) = Proper B s w h × AllProper B s (next B s w h) hs

abbrev pub Demand3InWords : Behaviour → Type 0
Demand3InWords B =
    (s : Setting) (core : Core) (m : Remainder) (xs : List Episode)
    → Fresh s core
    → Closed s (waits_for_data core.wait) m.rest
    → AllFair s xs
    → AllProper B s (begin core) (trace m xs)
    → (n : ℕ)
    → Kept B s (after B s (begin core) (take n (trace m xs)))
