-- Demand 3 in its own words follows from demand 3: each episode is allowed, and begins and ends with no exchange open. Assumes nothing.
use mathlib.Core.Path.{◌≡◌, refl, ◌∙◌, ap}
use mathlib.Core.Bool.{Bool, true, false, ◌&&◌, cond}
use mathlib.Core.List.{List, [], ◌∷◌, ◌++◌}
use Rattle.std.specs.Prelude.{is_some}
use Rattle.wire.specs.Data.{verdict_of}
use Rattle.demands.specs.Behaviour.{Lent, Call, Behaviour}
use Rattle.demands.specs.Host.{Setting, Happening, Firmware, TokenArrives, OtherArrives, Open, Nobody, This, Another, opens, is_this, is_another, World, next, after, waits_for_data, begin}
use Rattle.demands.specs.Demand3.{Allowed, AllAllowed, calls, Demand3}
use Rattle.demands.specs.Exchange.{Fate, Arrives, Lost, Fails, Exchange, token_part, data_part, Rest, Done, Follows, CutShort, rest_part, Remainder, remaining, Episode, Ours, Theirs, Calls, played, episodes, trace, FailsCheck, Closed, Fair, AllFair, AllProper, Demand3InWords}
use Rattle.demands.proofs.HostPackets.{failing}

module _ (B : Behaviour) (s : Setting) where
  -- a stretch that is allowed, and leaves no exchange open
  record Ends (w : World) (hs : List Happening) : Type 0 where
    allowed : AllAllowed B s w hs
    closed : (after B s w hs).exchange ≡ Nobody

  -- one happening in front
  behind : (w : World) (h : Happening) (hs : List Happening) → Allowed B s w h → Ends (next B s w h) hs → Ends w (h ∷ hs)
  behind w h hs ok e = record { allowed = (ok, e.allowed); closed = e.closed }

  -- two stretches, one behind the other
  both_end : (hs ks : List Happening) (w : World) → AllProper B s w (hs ++ ks) → (AllProper B s w hs → Ends w hs) → ((v : World) → v.exchange ≡ Nobody → AllProper B s v ks → Ends v ks) → Ends w (hs ++ ks)
  both_end hs ks w p f g = join hs w (f (split hs w p).0) (g (after B s w hs) (f (split hs w p).0).closed (split hs w p).1)
    where
      split : (hs : List Happening) (w : World) → AllProper B s w (hs ++ ks) → AllProper B s w hs × AllProper B s (after B s w hs) ks
      split [] w p = (tt, p)
      split (h ∷ hs) w p = let q = split hs (next B s w h) p.1 in ((p.0, q.0), q.1)

      join : (hs : List Happening) (w : World) → Ends w hs → Ends (after B s w hs) ks → Ends w (hs ++ ks)
      join [] w x y = y
      join (h ∷ hs) w x y =
          behind w h (hs ++ ks) x.allowed.0 (join hs (next B s w h) (record { allowed = x.allowed.1; closed = x.closed }) y)

  -- firmware calls in front open and close nothing
  calls_end : (cs : List (Lent × Call)) (ks : List Happening) (w : World) → AllProper B s w (calls cs ++ ks) → ((v : World) → v.exchange ≡ w.exchange → AllProper B s v ks → Ends v ks) → Ends w (calls cs ++ ks)
  calls_end [] ks w p f = f w refl p
  calls_end (c ∷ cs) ks w p f =
      let h = Firmware c.0 c.1 in behind w h (calls cs ++ ks) p.0 (calls_end cs ks (next B s w h) p.1 f)

  -- ---- an exchange of this endpoint

  -- what a token of this fate leaves open
  abbrev open_of : Fate → Open
  open_of Arrives = This
  open_of Lost = Nobody
  open_of (Fails p) = Nobody

  not_another : (t : Fate) → is_another (open_of t) ≡ false
  not_another Arrives = refl
  not_another Lost = refl
  not_another (Fails p) = refl

  data_ends : (t d : Fate) (h : Bool) (l : Lent) (w : World) → FailsCheck d → w.exchange ≡ open_of t → AllProper B s w (data_part t d h l) → Ends w (data_part t d h l)
  data_ends t Arrives h l w f e p = record { allowed = ((p.0.0, ap is_another e ∙ not_another t, p.0.1), tt); closed = refl }
  data_ends t (Fails q) h l w f e p = record { allowed = ((p.0, f), tt); closed = refl }
  data_ends Arrives Lost h l w f e p = record { allowed = (p.0, tt); closed = refl }
  data_ends Lost Lost h l w f e p = record { allowed = tt; closed = e }
  data_ends (Fails q) Lost h l w f e p = record { allowed = tt; closed = e }

  module _ (x : Exchange) (g : FailsCheck x.data_fate) where
    abbrev behind_token : Fate → List Happening
    behind_token t = calls x.inside ++ data_part t x.data_fate x.is_heard x.lent_data

    token_behind : (t : Fate) (w : World) → w.exchange ≡ open_of t → AllProper B s w (behind_token t) → Ends w (behind_token t)
    token_behind t w o p =
        calls_end x.inside (data_part t x.data_fate x.is_heard x.lent_data) w p
        (λ v c q. data_ends t x.data_fate x.is_heard x.lent_data v g (c ∙ o) q)

    exchange_ends : (t : Fate) (w : World) → w.exchange ≡ Nobody → FailsCheck t → AllProper B s w (token_part t x.lent_token ++ behind_token t) → Ends w (token_part t x.lent_token ++ behind_token t)
    exchange_ends Arrives w e f p = behind w (TokenArrives x.lent_token) _ p.0 (token_behind Arrives _ refl p.1)
    exchange_ends Lost w e f p = token_behind Lost w e p
    exchange_ends (Fails q) w e f p =
        let y = failing s q f in
        behind w (OtherArrives x.lent_token q) _ (p.0, y.not_ours, rw e) (token_behind (Fails q) _ (rw y.opens_none) p.1)

  -- ---- an exchange of another endpoint

  rest_ends : (opened : Bool) (r : Rest) (w : World) → Closed s opened r → w.exchange ≡ cond opened Another Nobody → AllProper B s w (rest_part r) → Ends w (rest_part r)
  rest_ends opened Done w c e p = record { allowed = tt; closed = e ∙ rw c }
  rest_ends opened (Follows q l) w c e p =
      record { allowed = ((p.0, c.0, ap (λ (o : Open). is_this o && is_some (verdict_of q)) e ∙ not_this opened), tt); closed = rw c.1 }
    where
      not_this : (b : Bool) → (is_this (cond b Another Nobody) && is_some (verdict_of q)) ≡ false
      not_this true = refl
      not_this false = refl
  rest_ends opened (CutShort l) w c e p = record { allowed = (p.0, tt); closed = refl }

  remainder_ends : (opened : Bool) (m : Remainder) (w : World) → Closed s opened m.rest → w.exchange ≡ cond opened Another Nobody → AllProper B s w (remaining m) → Ends w (remaining m)
  remainder_ends opened m w c e p =
      calls_end m.inside (rest_part m.rest) w p (λ v x q. rest_ends opened m.rest v c (x ∙ e) q)

  -- ---- every episode

  episode_ends : (x : Episode) (w : World) → w.exchange ≡ Nobody → Fair s x → AllProper B s w (played x) → Ends w (played x)
  episode_ends (Ours x) w e f p = exchange_ends x f.1 x.token_fate w e f.0 p
  episode_ends (Theirs q l m) w e f p =
      behind w (OtherArrives l q) (remaining m) (p.0, f.0, rw e) (remainder_ends (opens s q) m _ f.1 refl p.1)
  episode_ends (Calls cs) w e f p = calls_alone cs w e p
    where
      calls_alone : (cs : List (Lent × Call)) (w : World) → w.exchange ≡ Nobody → AllProper B s w (calls cs) → Ends w (calls cs)
      calls_alone [] w e p = record { allowed = tt; closed = e }
      calls_alone (c ∷ cs) w e p = behind w (Firmware c.0 c.1) (calls cs) p.0 (calls_alone cs _ e p.1)

  episodes_end : (xs : List Episode) (w : World) → w.exchange ≡ Nobody → AllFair s xs → AllProper B s w (episodes xs) → Ends w (episodes xs)
  episodes_end [] w e f p = record { allowed = tt; closed = e }
  episodes_end (x ∷ xs) w e f p =
      both_end (played x) (episodes xs) w p (episode_ends x w e f.0) (λ v c q. episodes_end xs v c f.1 q)

pub in_words : (B : Behaviour) → Demand3 B → Demand3InWords B
in_words B d s core m xs fresh c f p =
    d s core (trace m xs) fresh
    (both_end B s (remaining m) (episodes xs) (begin core) p (remainder_ends B s (waits_for_data core.wait) m (begin core) c refl) (λ v e q. episodes_end B s xs v e f q)).allowed
