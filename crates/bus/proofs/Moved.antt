-- A record that is served is given anew with its endpoint and its spans; such a record keeps a sound state sound. Assumes nothing.
use Prim.Native.Nat.{ℕ, ◌≤◌, ◌<◌}
use mathlib.Core.Path.{◌≡◌, refl, sym, ◌∙◌, subst}
use mathlib.Core.Bool.{Bool, true, false, not, cond, false≢true}
use lib.Dec.{ltb, eqb}
use Rattle.state.specs.declared.Speed.{Speed}
use Rattle.state.specs.declared.Condition.{Condition}
use Rattle.state.specs.declared.Kind.{Kind}
use Rattle.state.specs.declared.Kind.TheVariants as kind
use Rattle.state.specs.declared.Toggles.{Toggles}
use Rattle.state.specs.declared.RecordEvents.{RecordEvents}
use Rattle.state.specs.declared.Descriptor.{Descriptor}
use Rattle.state.specs.declared.Record.{Record}
use Rattle.state.specs.declared.Wait.{Wait}
use Rattle.state.specs.declared.Wait.TheVariants.{Nothing, Data, Acknowledge}
use Rattle.state.specs.declared.Core.{Core}
use Rattle.state.specs.Update.{with_condition, with_next, with_events, with_toggles, noted, buffer_of, with_buffer, with_wait, record_at, with_record}
use Rattle.state.specs.Ranges.{live, toggles_fit, out_side, DescriptorSound, LiveSound, is_unused}
use Rattle.state.specs.Served.{serves_out, serves_in}
use Rattle.state.specs.Spans.{spans_in, spans_of}
use Rattle.state.specs.Sound.{sends, WaitSound, Sound}
use Rattle.state.proofs.Kept.{from_live, with_buffer_sound, buffer_sound, same_apart, same_served, replaced}
use Rattle.bus.specs.declared.turn.Turn.{Turn}
use Rattle.bus.specs.Turn.{placed}
use Rattle.bus.specs.Active.{left_of, grown, spent, used_event, used_up, filled}
use Rattle.bus.proofs.Descriptors.{stored_sound, sent_sound, grown_span, spent_span}

pub record Moved (M : ℕ) (speed : Speed) (r q : Record) : Type 0 where
  pub sound : LiveSound M speed q
  pub is_live : live q.condition ≡ true
  pub same_endpoint : q.endpoint ≡ r.endpoint
  pub same_spans : spans_of q ≡ spans_of r

-- ---- one law for each update

module _ (M : ℕ) (speed : Speed) (r : Record) where
  pub moved_same : LiveSound M speed r → live r.condition ≡ true → Moved M speed r r
  moved_same s l = record { sound = s; is_live = l; same_endpoint = refl; same_spans = refl }

  module _ (q : Record) (m : Moved M speed r q) where
    -- the same endpoint and the same buffers
    moved_parts : (c : Condition) (e : RecordEvents) (next : Bool) (t : Toggles) → live c ≡ true → toggles_fit q.endpoint.kind t ≡ true
        → Moved M speed r (record { condition = c; events = e; next = next; toggles = t; endpoint = q.endpoint; first = q.first; second = q.second })
    moved_parts c e next t l f =
        record {
          sound = record { endpoint_fitting = m.sound.endpoint_fitting; toggles_fitting = f; first_sound = m.sound.first_sound; second_sound = m.sound.second_sound };
          is_live = l;
          same_endpoint = m.same_endpoint;
          same_spans = m.same_spans;
        }

    pub moved_condition : (c : Condition) → live c ≡ true → Moved M speed r (with_condition q c)
    moved_condition c l = moved_parts c q.events q.next q.toggles l m.sound.toggles_fitting

    pub moved_next : (next : Bool) → Moved M speed r (with_next q next)
    moved_next next = moved_parts q.condition q.events next q.toggles m.is_live m.sound.toggles_fitting

    pub moved_events : (events : RecordEvents) → Moved M speed r (with_events q events)
    moved_events events = moved_parts q.condition events q.next q.toggles m.is_live m.sound.toggles_fitting

    pub moved_toggles : (t : Toggles) → toggles_fit q.endpoint.kind t ≡ true → Moved M speed r (with_toggles q t)
    moved_toggles t f = moved_parts q.condition q.events q.next t m.is_live f

    pub moved_buffer : (second : Bool) (d : Descriptor) → DescriptorSound M (out_side q.endpoint.kind second) q.endpoint.maximum d → spans_in d ≡ spans_in (buffer_of q second) → Moved M speed r (with_buffer q second d)
    moved_buffer second d s e =
        record {
          sound = with_buffer_sound M speed q second d m.sound s;
          is_live = m.is_live;
          same_endpoint = m.same_endpoint;
          same_spans = spans second e ∙ m.same_spans;
        }
      where
        spans : (second : Bool) → spans_in d ≡ spans_in (buffer_of q second) → spans_of (with_buffer q second d) ≡ spans_of q
        spans false e = rw e
        spans true e = rw e

-- ---- what is stored, and what is acknowledged

-- a buffer that is given anew and is then used
used_again : (r : Record) (second : Bool) (d : Descriptor) → used_up (with_buffer r second d) second ≡ with_next (with_events (with_buffer r second (spent d)) (noted r.events (used_event second))) (not second)
unfolding used_up
used_again r false d = refl
used_again r true d = refl

module _ (M : ℕ) (speed : Speed) (r q : Record) (m : Moved M speed r q) (second : Bool) where
  -- a descriptor that has grown, and is used or not
  advanced : (d : Descriptor) → spans_in d ≡ spans_in (buffer_of q second) → (used : Bool) → DescriptorSound M (out_side q.endpoint.kind second) q.endpoint.maximum (cond used (spent d) d) → Moved M speed r (cond used (used_up (with_buffer q second d) second) (with_buffer q second d))
  advanced d e true s =
      subst (Moved M speed r) (sym (used_again q second d))
      (moved_next M speed r _ (moved_events M speed r _ (moved_buffer M speed r q m second (spent d) s (spent_span d ∙ e)) _) (not second))
  advanced d e false s = moved_buffer M speed r q m second d s e

  pub filled_moved : (n : ℕ) → n ≤ q.endpoint.maximum → out_side q.endpoint.kind second ≡ true → is_unused (buffer_of q second) ≡ true → Moved M speed r (filled q second n)
  unfolding filled
  filled_moved n h o u = pick (ltb (left_of d) maximum) sound
    where
      maximum : ℕ
      maximum = q.endpoint.maximum

      d : Descriptor
      d = grown (buffer_of q second) n

      sound : DescriptorSound M (out_side q.endpoint.kind second) maximum (cond (ltb (left_of d) maximum) (spent d) d)
      sound =
          subst (λ (out : Bool). DescriptorSound M out maximum (cond (ltb (left_of d) maximum) (spent d) d)) (sym o)
          (stored_sound M maximum n h (buffer_of q second) (subst (λ (out : Bool). DescriptorSound M out maximum (buffer_of q second)) o (buffer_sound M speed q m.sound second)) u)

      pick : (used : Bool) → DescriptorSound M (out_side q.endpoint.kind second) maximum (cond used (spent d) d) → Moved M speed r (cond used (used_up (with_buffer q second d) second) (with_next (with_buffer q second d) second))
      pick true s = advanced d (grown_span (buffer_of q second) n) true s
      pick false s = moved_next M speed r _ (advanced d (grown_span (buffer_of q second) n) false s) second

  pub advanced_moved : (sent : ℕ) → out_side q.endpoint.kind second ≡ false → sends q.endpoint.maximum sent (buffer_of q second) ≡ true → Moved M speed r (cond (eqb (left_of (grown (buffer_of q second) sent)) 0) (used_up (with_buffer q second (grown (buffer_of q second) sent)) second) (with_buffer q second (grown (buffer_of q second) sent)))
  advanced_moved sent o e =
      advanced (grown (buffer_of q second) sent) (grown_span (buffer_of q second) sent) (eqb (left_of (grown (buffer_of q second) sent)) 0)
      (subst (λ (out : Bool). DescriptorSound M out q.endpoint.maximum (cond (eqb (left_of (grown (buffer_of q second) sent)) 0) (spent (grown (buffer_of q second) sent)) (grown (buffer_of q second) sent))) (sym o)
      (sent_sound M q.endpoint.maximum sent (buffer_of q second) (subst (λ (out : Bool). DescriptorSound M out q.endpoint.maximum (buffer_of q second)) o (buffer_sound M speed q m.sound second)) e))

-- ---- the toggle of a side that the record serves may be either

pub flip_out_fits : (k : Kind) (t : Toggles) → serves_out k ≡ true → toggles_fit k t ≡ true → toggles_fit k (record { out_side = not t.out_side; in_side = t.in_side }) ≡ true
flip_out_fits kind.Control t s f = refl
flip_out_fits kind.In t s f = absurd (false≢true s)
flip_out_fits kind.Out t s f = f

pub flip_in_fits : (k : Kind) (t : Toggles) → serves_in k ≡ true → toggles_fit k t ≡ true → toggles_fit k (record { out_side = t.out_side; in_side = not t.in_side }) ≡ true
flip_in_fits kind.Control t s f = refl
flip_in_fits kind.In t s f = f
flip_in_fits kind.Out t s f = absurd (false≢true s)

-- ---- the core

-- the wait asks of the records alone
pub same_records : (core other : Core) → other.records ≡ core.records → (v : Wait) → WaitSound core v → WaitSound other v
same_records core other e Nothing s = tt
same_records core other e (Data i stage) s = rw e s
same_records core other e (Acknowledge i buffer sent) s = rw e s

pub waits : (core : Core) → Sound core → (v : Wait) → WaitSound core v → Sound (with_wait core v)
waits core w v s =
    record {
      sixteen = w.sixteen;
      memory_within = w.memory_within;
      address_within = w.address_within;
      each_record = w.each_record;
      served_once = w.served_once;
      spans_apart = w.spans_apart;
      wait_sound = same_records core (with_wait core v) refl v s;
    }

pub placed_sound : (core : Core) → Sound core → (i : ℕ) → i < 16 → (t : Turn) → live (record_at core i).condition ≡ true → Moved core.memory_size core.speed (record_at core i) t.after → WaitSound (with_record core i t.after) t.wait → Sound (placed core i t).core
placed_sound core w i h t l m v =
    waits (with_record still i t.after)
    (replaced still (waits core w Nothing tt) i h t.after
    (from_live t.after.condition core.memory_size core.speed t.after m.is_live m.sound)
    (same_served still (waits core w Nothing tt) i h t.after (rw (m.is_live, l, m.same_endpoint)))
    (same_apart still (waits core w Nothing tt) i h t.after m.same_spans)
    tt)
    t.wait (same_records (with_record core i t.after) (with_record still i t.after) refl t.wait v)
  where
    still : Core
    still = with_wait core Nothing
