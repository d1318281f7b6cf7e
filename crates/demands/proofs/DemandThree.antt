-- Document 01's core meets demand 3: an invariant of the trace, kept by each happening. Assumes nothing.
use Prim.Native.Nat.{ℕ, zero, suc, ◌<◌}
use mathlib.Core.Path.{◌≡◌, refl, sym, ◌∙◌, ap, subst}
use mathlib.Core.Logic.{inl, inr, ⊎_elim}
use mathlib.Core.Bool.{Bool, true, false, ◌&&◌, cond, true≢false}
use mathlib.Core.List.{List, [], ◌∷◌, ◌++◌}
use lib.ListN.{length, take}
use borrow.Author.Tests.{eq-eqb}
use Rattle.std.specs.Prelude.{is_some}
use Rattle.wire.specs.Data.{verdict_of}
use Rattle.state.specs.declared.Record.{Record}
use Rattle.state.specs.declared.Wait.{Wait}
use Rattle.state.specs.declared.Wait.TheVariants as wait
use Rattle.state.specs.declared.Core.{Core}
use Rattle.state.specs.Update.{record_at}
use Rattle.state.specs.Sound.{Sound}
use Rattle.firmware.specs.Records.{waits_on}
use Rattle.bus.specs.declared.active.Direction.TheVariants.{Out}
use Rattle.bus.specs.Active.{active}
use Rattle.demands.specs.Behaviour.{Lent, Call, Packet, Timeout, Outcome, heard, the_core}
use Rattle.demands.specs.Demand2.{lends, is_acceptance}
use Rattle.demands.specs.Host.{Setting, odd, out_token, data_packet, Happening, Firmware, Late, TokenArrives, DataArrives, DamagedArrives, OtherArrives, on_hearing, Open, Nobody, This, Another, opens, is_this, is_another, World, next, after, waits_for_data, begin}
use Rattle.demands.specs.Demand3.{Fresh, Allowed, AllAllowed, Finds, calls, whole, Demand3}
use Rattle.demands.proofs.Rules.{call_sound}
use Rattle.demands.proofs.OtherPackets.{Calm, Guarded, other_calm}
use Rattle.demands.proofs.OurToken.{token_opens}
use Rattle.demands.proofs.FirmwareCalls.{noted_active, permitted}
use Rattle.demands.proofs.Late.{late_closes}
use Rattle.demands.proofs.Unanswered.{Unstored, damaged, stray}
use Rattle.demands.proofs.OurData.{Awaited, repeated, unready, took}
use Rattle.demands.proofs.Invariant.{Waits, Count, Invariant, goes_on, unstored, quietly, stored_one}

-- behind the host's token no good data packet but its own arrives
guarded : (s : Setting) (core : Core) (x : Open) (p : List ℕ) → Waits s.index x core.wait → (is_this x && is_some (verdict_of p)) ≡ false → Guarded s core p
guarded s core Nobody p v e y f = absurd (true≢false (sym (ap waits_for_data f) ∙ v))
guarded s core This p v e y f = e
guarded s core Another p v e y f =
    absurd (true≢false (sym (ap (λ (z : Wait). waits_on z s.index) f ∙ eq-eqb s.index s.index refl) ∙ v))

after_other : (s : Setting) (p : List ℕ) (core core' : Core) → Calm s p core core' → Waits s.index (cond (opens s p) Another Nobody) core'.wait
after_other s p core core' c = pick (opens s p) c.waits.1
  where
    pick : (b : Bool) → (b ≡ false → waits_for_data core'.wait ≡ false) → Waits s.index (cond b Another Nobody) core'.wait
    pick true f = c.waits.0
    pick false f = f refl

-- the host moves on where it hears an acceptance, and else it does not
not_moved : (h : Bool) (m a : ℕ) → Count m a → Count m (cond (h && false) (suc a) a)
not_moved true m a c = c
not_moved false m a c = c

moved : (h : Bool) (m a : ℕ) → m ≡ suc a → Count m (cond (h && true) (suc a) a)
moved true m a e = inl e
moved false m a e = inr e

module _ (s : Setting) where
  module _ (w : World) (inv : Invariant s w) (lent : Lent) where
    abbrev a : ℕ
    a = w.acknowledged

    abbrev r : Record
    r = record_at w.core s.index

    abbrev left : Call → Outcome
    left c = the_core w.core lent c

    sound_after : (c : Call) → Sound (left c).core
    sound_after c = call_sound w.core lent c inv.plays.sound

    -- ---- the data packet, whole or not

    answered : (p : List ℕ) (h b : Bool) → Unstored s w.core b (left (Packet p)) → Count (length w.stored) (cond (h && b) (suc a) a) → Invariant s (goes_on s w (left (Packet p)) Nobody (on_hearing h (left (Packet p)) a))
    answered p h b u c =
        quietly s w inv (left (Packet p)) Nobody _ (sound_after (Packet p)) u.quiet u.ended
        (subst (λ (x : Bool). Count (length w.stored) (cond (h && x) (suc a) a)) (sym u.answer) c)

    -- behind its token
    module _ (known : Awaited s w.core lent a) where
      first : (h : Bool) → length w.stored ≡ a → Invariant s (next the_core s w (DataArrives lent h))
      first h e = pick (active Out r) refl
        where
          pick : (b : Bool) → active Out r ≡ b → Invariant s (next the_core s w (DataArrives lent h))
          pick false f = answered (data_packet s a) h false (unready s w.core lent a known (inv.toggle ∙ ap odd e) f) (not_moved h _ a (inl e))
          pick true f =
              let t = took s w.core lent a known (inv.toggle ∙ ap odd e) f in
              stored_one s w inv (left (Packet (data_packet s a))) Nobody _ (sound_after (Packet (data_packet s a))) e known.more t t.ended
              (subst (λ (x : Bool). Count (suc a) (cond (h && x) (suc a) a)) (sym t.answer) (moved h (suc a) a refl))

      again : (h : Bool) → length w.stored ≡ suc a → Invariant s (next the_core s w (DataArrives lent h))
      again h e = answered (data_packet s a) h true (repeated s w.core lent a known (inv.toggle ∙ ap odd e)) (moved h _ a e)

      -- and with an active buffer: the first time or again, it is accepted
      accepted : active Out r ≡ true → is_acceptance (heard (left (Packet (data_packet s a)))) ≡ true
      accepted f =
          ⊎_elim
          (λ e. (took s w.core lent a known (inv.toggle ∙ ap odd e) f).answer)
          (λ e. (repeated s w.core lent a known (inv.toggle ∙ ap odd e)).answer)
          inv.count

    data_step_lem : (h : Bool) (x : Open) → Waits s.index x w.core.wait → lends w.core lent ≡ true → is_another x ≡ false → a < length s.payloads → Invariant s (next the_core s w (DataArrives lent h))
    data_step_lem h Nobody v l e more = answered (data_packet s a) h false (stray s w.core inv.plays lent l v a) (not_moved h _ a inv.count)
    data_step_lem h This v l e more =
        let known : Awaited s w.core lent a = record { plays = inv.plays; lent_whole = l; waits = v; more = more } in
        ⊎_elim (first known h) (again known h) inv.count
    data_step_lem h Another v l e more = absurd (true≢false e)

    -- ---- another packet

    other_step : (p : List ℕ) → Calm s p w.core (left (Packet p)).core → Invariant s (next the_core s w (OtherArrives lent p))
    other_step p c = quietly s w inv (left (Packet p)) _ a (sound_after (Packet p)) c.quiet (after_other s p w.core _ c) inv.count

  -- ---- every happening

  step : (w : World) (h : Happening) → Invariant s w → Allowed the_core s w h → Invariant s (next the_core s w h)
  step w (Firmware l c) inv ok =
      let u = permitted s w inv.plays l c ok in
      unstored s w inv (the_core w.core l c) w.exchange w.acknowledged (sound_after w inv l c) u.same_address u.spared (subst (Waits s.index w.exchange) (sym u.same_wait) inv.waits) inv.count
  step w (Late l) inv ok =
      let c = late_closes s w.core inv.plays l ok in
      quietly s w inv (the_core w.core l Timeout) Nobody w.acknowledged (sound_after w inv l Timeout) c.0 c.1 inv.count
  step w (TokenArrives l) inv ok =
      let t = token_opens s w.core inv.plays l ok in
      quietly s w inv (the_core w.core l (Packet (out_token s))) This w.acknowledged (sound_after w inv l (Packet (out_token s))) t.quiet t.waits inv.count
  step w (DataArrives l h) inv ok = data_step_lem w inv l h w.exchange inv.waits ok.0 ok.1 ok.2
  step w (DamagedArrives l p h) inv ok =
      answered w inv l p h false (damaged s w.core inv.plays l ok.0 p ok.1) (not_moved h _ w.acknowledged inv.count)
  step w (OtherArrives l p) inv ok =
      other_step w inv l p (other_calm s w.core inv.plays p l ok.0 ok.1 (guarded s w.core w.exchange p inv.waits ok.2))

  steps : (hs : List Happening) (w : World) → Invariant s w → AllAllowed the_core s w hs → Invariant s (after the_core s w hs)
  steps [] w inv ok = inv
  steps (h ∷ hs) w inv ok = steps hs (next the_core s w h) (step w h inv ok.0) ok.1

  at_start : (core : Core) → Fresh s core → Invariant s (begin core)
  at_start core fresh =
      record { plays = fresh.plays; toggle = fresh.at_data0; order = refl; count = inl refl; waits = go core.wait fresh.unwaited }
    where
      go : (v : Wait) → waits_on v s.index ≡ false → Waits s.index (cond (waits_for_data v) Another Nobody) v
      go wait.Nothing e = refl
      go (wait.Data i x) e = e
      go (wait.Acknowledge i b k) e = refl

  -- ---- the host moves on

  moves : (w : World) → Invariant s w → (l : Lent) → Allowed the_core s w (DataArrives l true) → w.exchange ≡ This → Finds s w → (next the_core s w (DataArrives l true)).acknowledged ≡ suc w.acknowledged
  moves w inv l ok e f = rw (accepted w inv l known f)
    where
      known : Awaited s w.core l w.acknowledged
      known = record { plays = inv.plays; lent_whole = ok.0; waits = subst (λ (x : Open). Waits s.index x w.core.wait) e inv.waits; more = ok.2 }

  -- the calls between the two packets leave an active buffer
  moves_behind : (cs : List (Lent × Call)) (w : World) (l : Lent) → Invariant s w → w.exchange ≡ This → Finds s w → AllAllowed the_core s w (calls cs ++ (DataArrives l true ∷ [])) → (after the_core s w (calls cs ++ (DataArrives l true ∷ []))).acknowledged ≡ suc w.acknowledged
  moves_behind [] w l inv e f ok = moves w inv l ok.0 e f
  moves_behind (c ∷ cs) w l inv e f ok =
      moves_behind cs (next the_core s w (Firmware c.0 c.1)) l (step w (Firmware c.0 c.1) inv ok.0) e
      ((permitted s w inv.plays c.0 c.1 ok.0).still_active waited f) ok.1
    where
      waited : waits_on w.core.wait s.index ≡ true
      waited =
          ap (λ (v : Wait). waits_on v s.index) (subst (λ (x : Open). Waits s.index x w.core.wait) e inv.waits)
          ∙ eq-eqb s.index s.index refl

  moves_from_token : (w : World) → Invariant s w → (l : Lent) (cs : List (Lent × Call)) (l' : Lent) → AllAllowed the_core s w (whole l cs l') → Finds s w → (after the_core s w (whole l cs l')).acknowledged ≡ suc w.acknowledged
  moves_from_token w inv l cs l' ok f =
      moves_behind cs (next the_core s w (TokenArrives l)) l' (step w (TokenArrives l) inv ok.0) refl
      (noted_active _ _ (token_opens s w.core inv.plays l ok.0).quiet.only_events ∙ f) ok.1

-- a prefix of an allowed trace is allowed
allowed_take : (s : Setting) (n : ℕ) (hs : List Happening) (w : World) → AllAllowed the_core s w hs → AllAllowed the_core s w (take n hs)
allowed_take s zero hs w ok = tt
allowed_take s (suc n) [] w ok = tt
allowed_take s (suc n) (h ∷ hs) w ok = (ok.0, allowed_take s n hs (next the_core s w h) ok.1)

pub demand3 : Demand3 the_core
demand3 s core hs fresh ok n =
    record {
      order = inv.order;
      count = inv.count;
      moves = moves s (after the_core s (begin core) (take n hs)) inv;
      moves_from_token = moves_from_token s (after the_core s (begin core) (take n hs)) inv;
    }
  where
    inv : Invariant s (after the_core s (begin core) (take n hs))
    inv = steps s (take n hs) (begin core) (at_start s core fresh) (allowed_take s n hs (begin core) ok)
