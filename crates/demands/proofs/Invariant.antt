-- What holds of the world after every happening of demand 3, and that a call keeps it that stores nothing, or the next payload. Assumes nothing.
use Prim.Native.Nat.{ℕ, suc, ◌<◌}
use native.Mathlib.Numerals.{add-one}
use mathlib.Core.Path.{◌≡◌, sym, ◌∙◌, ap, subst}
use mathlib.Core.Logic.{◌⊎◌}
use mathlib.Core.Bool.{false, not}
use mathlib.Core.List.{List, [], ◌∷◌, ◌++◌, append-nil}
use lib.ListN.{length, get_or, take, length-append}
use lib.Seq.{take-suc}
use Rattle.state.specs.declared.Stage.TheVariants as stage
use Rattle.state.specs.declared.Wait.{Wait}
use Rattle.state.specs.declared.Wait.TheVariants as wait
use Rattle.state.specs.Update.{record_at}
use Rattle.state.specs.Sound.{Sound}
use Rattle.firmware.specs.Records.{waits_on}
use Rattle.demands.specs.Behaviour.{Outcome}
use Rattle.demands.specs.Host.{stored_by, Setting, odd, Open, Nobody, This, Another, World, waits_for_data}
use Rattle.demands.specs.Demand3.{Plays}
use Rattle.demands.proofs.Spared.{Spared, noted_spared, Quiet, plays_on}
use Rattle.demands.proofs.OurData.{Took}

-- what the open exchange says of the core's wait
abbrev pub Waits : ℕ → Open → Wait → Type 0
Waits i Nobody v = waits_for_data v ≡ false
Waits i This v = v ≡ wait.Data i stage.Out
Waits i Another v = waits_on v i ≡ false

-- as many as the host holds acknowledged, or one more
abbrev pub Count : ℕ → ℕ → Type 0
Count n a = (n ≡ a) ⊎ (n ≡ suc a)

pub record Invariant (s : Setting) (w : World) : Type 0 where
  pub plays : Plays s w.core
  pub toggle : (record_at w.core s.index).toggles.out_side ≡ odd (length w.stored)
  pub order : w.stored ≡ take (length w.stored) s.payloads
  pub count : Count (length w.stored) w.acknowledged
  pub waits : Waits s.index w.exchange w.core.wait

-- the world after a call
abbrev pub goes_on : Setting → World → Outcome → Open → ℕ → World
goes_on s w o x a = record { core = o.core; exchange = x; acknowledged = a; stored = w.stored ++ stored_by s.index w.core o }

module _ (s : Setting) (w : World) (inv : Invariant s w) where
  abbrev n : ℕ
  n = length w.stored

  -- a call that stores nothing
  pub unstored : (o : Outcome) (x : Open) (a : ℕ) → Sound o.core → o.core.address ≡ w.core.address → Spared (record_at w.core s.index) (record_at o.core s.index) → Waits s.index x o.core.wait → Count n a → Invariant s (goes_on s w o x a)
  unfolding stored_by
  unstored o x a sound address spared v c =
      subst (λ (l : List (List ℕ)). Invariant s (record { core = o.core; exchange = x; acknowledged = a; stored = l }))
      (sym (ap (λ (l : List (List ℕ)). w.stored ++ l) (spared.none_stored o.lent.memory) ∙ append-nil w.stored))
      (record {
        plays = plays_on s w.core o.core inv.plays sound address spared.same_condition spared.same_endpoint;
        toggle = spared.same_toggle ∙ inv.toggle;
        order = inv.order;
        count = c;
        waits = v;
      })

  pub quietly : (o : Outcome) (x : Open) (a : ℕ) → Sound o.core → Quiet s.index w.core o.core → Waits s.index x o.core.wait → Count n a → Invariant s (goes_on s w o x a)
  quietly o x a sound q v c = unstored o x a sound q.same_address (noted_spared _ _ q.only_events) v c

  -- a call that stores the payload behind those acknowledged
  pub stored_one : (o : Outcome) (x : Open) (a : ℕ) → Sound o.core → n ≡ w.acknowledged → w.acknowledged < length s.payloads → Took s w.core (get_or s.payloads w.acknowledged []) o → Waits s.index x o.core.wait → Count (suc w.acknowledged) a → Invariant s (goes_on s w o x a)
  stored_one o x a sound e more t v c =
      subst (λ (l : List (List ℕ)). Invariant s (record { core = o.core; exchange = x; acknowledged = a; stored = w.stored ++ l })) (sym t.one_stored)
      (record {
        plays = plays_on s w.core o.core inv.plays sound t.same_address t.its_record.same_condition t.its_record.same_endpoint;
        toggle = t.its_record.flipped ∙ ap not inv.toggle ∙ sym (ap odd size);
        order = ap (λ (l : List (List ℕ)). l ++ (payload ∷ [])) (inv.order ∙ ap (λ (m : ℕ). take m s.payloads) e) ∙ sym (take-suc s.payloads w.acknowledged [] more) ∙ ap (λ (m : ℕ). take m s.payloads) (sym (size ∙ ap suc e));
        count = subst (λ (m : ℕ). Count m a) (sym (size ∙ ap suc e)) c;
        waits = v;
      })
    where
      payload : List ℕ
      payload = get_or s.payloads w.acknowledged []

      size : length (w.stored ++ (payload ∷ [])) ≡ suc n
      size = length-append w.stored (payload ∷ []) ∙ add-one n
