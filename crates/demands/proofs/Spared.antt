-- A record that a call leaves as it was but for buffers, mark and events is still the endpoint's, and nothing was stored in it. Assumes nothing.
use Prim.Native.Nat.{ℕ, ◌<◌}
use native.Mathlib.Omega.{arith}
use mathlib.Core.Path.{◌≡◌, refl, sym, ◌∙◌, ap, subst}
use mathlib.Core.Bool.{Bool, true, false, beq}
use mathlib.Core.List.{List, []}
use lib.Dec.{leb}
use lib.ListN.{length}
use borrow.Author.Tests.{le-ltb}
use Rattle.std.specs.Cmp.{booleans_Decides}
use Rattle.laws.specs.Lists.{all}
use Rattle.laws.proofs.Bools.{dec_eq}
use Rattle.state.specs.declared.Endpoint.{Endpoint}
use Rattle.state.specs.declared.RecordEvents.{RecordEvents}
use Rattle.state.specs.declared.Descriptor.{Descriptor}
use Rattle.state.specs.declared.Descriptor.TheVariants.{Unallocated, Armed}
use Rattle.state.specs.declared.Record.{Record}
use Rattle.state.specs.declared.Wait.{Wait}
use Rattle.state.specs.declared.Core.{Core}
use Rattle.state.specs.Update.{with_events, with_wait, record_at, with_record}
use Rattle.state.specs.Sound.{Sound}
use Rattle.state.proofs.Updates.{record_given, other_record}
use Rattle.demands.specs.Host.{grew, stored_in, Setting}
use Rattle.demands.specs.Demand3.{Plays}

-- ---- a record

-- what the endpoint is stays, the toggle stays, and nothing is stored, whatever the memory
pub record Spared (r q : Record) : Type 0 where
  pub same_condition : q.condition ≡ r.condition
  pub same_endpoint : q.endpoint ≡ r.endpoint
  pub same_toggle : q.toggles.out_side ≡ r.toggles.out_side
  pub none_stored : (memory : List ℕ) → stored_in r q memory ≡ []

-- only events differ
abbrev pub Noted : Record → Record → Type 0
Noted r q = (events : RecordEvents) × (q ≡ with_events r events)

pub as_it_was : (r : Record) → Noted r r
as_it_was r = (r.events, refl)

pub toggle_stays : (b : Bool) → beq b b ≡ true
toggle_stays b = (booleans_Decides b b).1 refl

pub never_grew : (d : Descriptor) → grew d d ≡ false
never_grew Unallocated = refl
never_grew (Armed base length done used) = le-ltb done done (omega arith)

pub noted_spared : (r q : Record) → Noted r q → Spared r q
noted_spared r q n = subst (Spared r) (sym n.1) (spared n.0)
  where
    spared : (events : RecordEvents) → Spared r (with_events r events)
    spared events =
        record {
          same_condition = refl;
          same_endpoint = refl;
          same_toggle = refl;
          none_stored = λ memory. rw (toggle_stays r.toggles.out_side, never_grew r.first, never_grew r.second);
        }

-- ---- the core

-- the address stays, and of record i only events differ
pub record Quiet (i : ℕ) (core core' : Core) : Type 0 where
  pub same_address : core'.address ≡ core.address
  pub only_events : Noted (record_at core i) (record_at core' i)

module _ (i : ℕ) where
  pub quiet_same : (core : Core) → Quiet i core core
  quiet_same core = record { same_address = refl; only_events = as_it_was (record_at core i) }

  pub quiet_then : (c d e : Core) → Quiet i c d → Quiet i d e → Quiet i c e
  quiet_then c d e p q =
      record {
        same_address = q.same_address ∙ p.same_address;
        only_events = (q.only_events.0, q.only_events.1 ∙ ap (λ (r : Record). with_events r q.only_events.0) p.only_events.1);
      }

-- ---- the endpoint

pub within : (s : Setting) (core : Core) → Plays s core → s.index < length core.records
within s core p = omega (arith, p.index_within, p.sound.sixteen)

-- record j is given anew, and the wait: it is another record, or only its events differ
pub quiet_placed : (s : Setting) (core : Core) → Plays s core → (j : ℕ) (q : Record) (v : Wait) → (j ≡ s.index → Noted (record_at core j) q) → Quiet s.index core (with_wait (with_record core j q) v)
quiet_placed s core p j q v f = record { same_address = refl; only_events = pick (dec_eq j s.index) }
  where
    pick : Dec (j ≡ s.index) → Noted (record_at core s.index) (record_at (with_record core j q) s.index)
    pick (no n) = ((record_at core s.index).events, other_record core j s.index q (λ e. n (sym e)))
    pick (yes e) =
        subst (λ (k : ℕ). Noted (record_at core k) (record_at (with_record core j q) k)) e
        ((f e).0, record_given core j q (omega (arith, within s core p, e)) ∙ (f e).1)

pub plays_on : (s : Setting) (core core' : Core) → Plays s core → Sound core' → core'.address ≡ core.address → (record_at core' s.index).condition ≡ (record_at core s.index).condition → (record_at core' s.index).endpoint ≡ (record_at core s.index).endpoint → Plays s core'
plays_on s core core' p w a c e =
    record {
      sound = w;
      index_within = p.index_within;
      same_address = a ∙ p.same_address;
      is_normal = c ∙ p.is_normal;
      is_out = ap (λ (x : Endpoint). x.kind) e ∙ p.is_out;
      same_number = ap (λ (x : Endpoint). x.number) e ∙ p.same_number;
      none_above = subst (λ (x : Endpoint). all (λ y. leb (length y) x.maximum) s.payloads ≡ true) (sym e) p.none_above;
    }

pub plays_quiet : (s : Setting) (core core' : Core) → Plays s core → Sound core' → Quiet s.index core core' → Plays s core'
plays_quiet s core core' p w q =
    let x = noted_spared (record_at core s.index) (record_at core' s.index) q.only_events in
    plays_on s core core' p w q.same_address x.same_condition x.same_endpoint
