-- What keeps a sound state sound: one record is replaced by a sound one that fits the others. Assumes nothing.
use Prim.Native.Nat.{ℕ, suc, ◌<◌, ◌≤◌}
use native.Mathlib.Omega.{arith}
use mathlib.Core.Path.{◌≡◌, refl, sym, ◌∙◌, ap, subst}
use mathlib.Core.Bool.{Bool, true, false, not, and_comm, false≢true}
use mathlib.Core.List.{List, ◌∷◌, ◌++◌, append_assoc}
use lib.ListN.{length, get_or, take, drop, set, length-set, replicate, get_or-replicate}
use lib.Seq.{set_split, set-get_or}
use Rattle.laws.specs.Lists.{all, pairs}
use Rattle.laws.proofs.Bools.{dec_eq, eqb_comm}
use Rattle.laws.proofs.Pairs.{pairs_without, pairs_with, pairs_set, gather_set}
use Rattle.laws.proofs.Lists.{gather_append}
use Rattle.state.specs.declared.Speed.{Speed}
use Rattle.state.specs.declared.Condition.{Condition}
use Rattle.state.specs.declared.Condition.TheVariants.{Off, Normal, Halted}
use Rattle.state.specs.declared.Descriptor.{Descriptor}
use Rattle.state.specs.declared.Descriptor.TheVariants.{Unallocated, Armed}
use Rattle.state.specs.declared.Record.{Record}
use Rattle.state.specs.declared.Stage.{Stage}
use Rattle.state.specs.declared.Wait.{Wait}
use Rattle.state.specs.declared.Wait.TheVariants.{Nothing, Data, Acknowledge}
use Rattle.state.specs.declared.Core.{Core}
use Rattle.state.specs.declared.served.End.{End}
use Rattle.state.specs.declared.spans.Span.{Span}
use Rattle.state.specs.Update.{off_record, buffer_of, with_buffer, record_at, with_record}
use Rattle.state.specs.Ranges.{live, out_side, DescriptorSound, LiveSound, SoundAs, RecordSound}
use Rattle.state.specs.Served.{serves_out, serves_in, end_of, ends_of, same_end, elsewhere, beside}
use Rattle.state.specs.Spans.{span_from, apart, spans_in, spans_of, armed_spans}
use Rattle.state.specs.Sound.{DataWait, AcknowledgeWait, WaitSound, Sound}
use Rattle.state.proofs.Ends.{ends_beside}
use Rattle.state.proofs.Sharing.{share_comm}
use Rattle.state.proofs.Updates.{record_given, other_record}

-- ---- live records

-- a record that is live and sound
pub as_live : (c : Condition) (M : ℕ) (speed : Speed) (r : Record) → live c ≡ true → SoundAs c M speed r → LiveSound M speed r
as_live Off M speed r l w = absurd (false≢true l)
as_live Normal M speed r l w = w
as_live Halted M speed r l w = w

-- a live record may change its condition between normal and halted
pub from_live : (c : Condition) (M : ℕ) (speed : Speed) (r : Record) → live c ≡ true → LiveSound M speed r → SoundAs c M speed r
from_live Off M speed r l w = absurd (false≢true l)
from_live Normal M speed r l w = w
from_live Halted M speed r l w = w

-- a live record with one buffer given anew, by the side of that buffer
pub with_buffer_sound : (M : ℕ) (speed : Speed) (r : Record) (second : Bool) (d : Descriptor) → LiveSound M speed r → DescriptorSound M (out_side r.endpoint.kind second) r.endpoint.maximum d → LiveSound M speed (with_buffer r second d)
with_buffer_sound M speed r false d w s =
    record { endpoint_fitting = w.endpoint_fitting; toggles_fitting = w.toggles_fitting; first_sound = s; second_sound = w.second_sound }
with_buffer_sound M speed r true d w s =
    record { endpoint_fitting = w.endpoint_fitting; toggles_fitting = w.toggles_fitting; first_sound = w.first_sound; second_sound = s }

-- either buffer of a live record is sound, by its side
pub buffer_sound : (M : ℕ) (speed : Speed) (r : Record) → LiveSound M speed r → (second : Bool) → DescriptorSound M (out_side r.endpoint.kind second) r.endpoint.maximum (buffer_of r second)
buffer_sound M speed r w false = w.first_sound
buffer_sound M speed r w true = w.second_sound

-- ---- both relations go both ways

pub apart_comm : (a b : Span) → apart a b ≡ true → apart b a ≡ true
apart_comm a b e = ap not (share_comm b a) ∙ e

same_comm : (a b : End) → same_end a b ≡ same_end b a
same_comm a b = rw (eqb_comm a.number b.number, and_comm (serves_out a.kind) (serves_out b.kind), and_comm (serves_in a.kind) (serves_in b.kind))

pub beside_comm : (r s : Record) → beside r s ≡ true → beside s r ≡ true
unfolding beside
beside_comm r s e =
    rw (and_comm (live s.condition) (live r.condition), same_comm (end_of s.endpoint) (end_of r.endpoint)) e

-- ---- the armed spans around one buffer

-- the spans in front of a buffer's and behind it, whatever stands in the buffer
pub record Around (l : List Record) (i : ℕ) (second : Bool) : Type 0 where
  pub front : List Span
  pub back : List Span
  pub whole : (d : Descriptor) → armed_spans (set l i (with_buffer (get_or l i off_record) second d)) ≡ front ++ (spans_in d ++ back)

pub around : (l : List Record) (i : ℕ) (second : Bool) → i < length l → Around l i second
around l i second h = pick second
  where
    r : Record
    r = get_or l i off_record

    A : List Span
    A = armed_spans (take i l)

    C : List Span
    C = armed_spans (drop (suc i) l)

    split : (q : Record) → armed_spans (set l i q) ≡ A ++ ((spans_in q.first ++ spans_in q.second) ++ C)
    split q = ap armed_spans (set_split l i q h) ∙ gather_append spans_of (take i l) (q ∷ drop (suc i) l)

    pick : (second : Bool) → Around l i second
    pick false =
        record {
          front = A;
          back = spans_in r.second ++ C;
          whole = λ d. split (with_buffer r false d) ∙ rw (append_assoc (spans_in d) (spans_in r.second) C);
        }
    pick true =
        record {
          front = A ++ spans_in r.first;
          back = C;
          whole = λ d. split (with_buffer r true d) ∙ rw (append_assoc (spans_in r.first) (spans_in d) C, append_assoc A (spans_in r.first) (spans_in d ++ C));
        }

-- a buffer that is given anew as it was
rebuilt : (r : Record) (second : Bool) → with_buffer r second (buffer_of r second) ≡ r
rebuilt r false = refl
rebuilt r true = refl

-- ---- one record of a sound state is replaced

module _ (core : Core) (w : Sound core) (i : ℕ) (h : i < 16) where
  at : i < length core.records
  at = omega (arith, w.sixteen)

  before : (second : Bool) → armed_spans core.records ≡ armed_spans (set core.records i (with_buffer (record_at core i) second (buffer_of (record_at core i) second)))
  before second = ap armed_spans (sym (ap (set core.records i) (rebuilt (record_at core i) second) ∙ set-get_or core.records i off_record))

  -- the buffer is emptied
  pub emptied_apart : (second : Bool) → pairs apart (armed_spans (set core.records i (with_buffer (record_at core i) second Unallocated))) ≡ true
  emptied_apart second =
      let a = around core.records i second at in
      ap (pairs apart) (a.whole Unallocated) ∙ pairs_without apart a.front (spans_in (buffer_of (record_at core i) second)) a.back (ap (pairs apart) (sym (before second ∙ a.whole (buffer_of (record_at core i) second))) ∙ w.spans_apart)

  -- the buffer is given a span that is apart from every other
  pub filled_apart : (second : Bool) (base length done : ℕ) (used : Bool) → all (apart (span_from base length)) (armed_spans (set core.records i (with_buffer (record_at core i) second Unallocated))) ≡ true → pairs apart (armed_spans (set core.records i (with_buffer (record_at core i) second (Armed base length done used)))) ≡ true
  filled_apart second base length done used e =
      let a = around core.records i second at in
      let x = span_from base length in
      ap (pairs apart) (a.whole (Armed base length done used)) ∙ pairs_with apart apart_comm a.front a.back x (ap (pairs apart) (sym (a.whole Unallocated)) ∙ emptied_apart second) (ap (all (apart x)) (sym (a.whole Unallocated)) ∙ e)

  -- the record has the spans that it had
  pub same_apart : (q : Record) → spans_of q ≡ spans_of (record_at core i) → pairs apart (armed_spans (set core.records i q)) ≡ true
  same_apart q e = ap (pairs apart) (gather_set spans_of off_record core.records i q e) ∙ w.spans_apart

  -- it serves what it served
  pub same_served : (q : Record) → ends_of q ≡ ends_of (record_at core i) → pairs beside (set core.records i q) ≡ true
  same_served q e =
      sym (ends_beside (set core.records i q)) ∙ ap (pairs elsewhere) (gather_set ends_of off_record core.records i q e) ∙ ends_beside core.records ∙ w.served_once

  -- it serves what no other does
  pub other_served : (q : Record) → all (beside q) (set core.records i off_record) ≡ true → pairs beside (set core.records i q) ≡ true
  other_served q e = pairs_set beside beside_comm core.records i q off_record w.served_once e

  -- a wait on another record stays; one on this record asks of the new one what it asked of the old
  pub wait_kept : (q : Record) (wait : Wait) → ((stage : Stage) → wait ≡ Data i stage → DataWait (record_at core i) stage → DataWait q stage) → ((buffer : Bool) (sent : ℕ) → wait ≡ Acknowledge i buffer sent → AcknowledgeWait (record_at core i) buffer sent → AcknowledgeWait q buffer sent) → WaitSound core wait → WaitSound (with_record core i q) wait
  wait_kept q Nothing f g s = tt
  wait_kept q (Data j stage) f g s = pick (dec_eq j i)
    where
      pick : Dec (j ≡ i) → WaitSound (with_record core i q) (Data j stage)
      pick (yes e) =
          (s.0, subst (λ (k : ℕ). DataWait (record_at (with_record core i q) k) stage) (sym e) (subst (λ (t : Record). DataWait t stage) (sym (record_given core i q at)) (f stage (ap (λ (k : ℕ). Data k stage) e) (subst (λ (k : ℕ). DataWait (record_at core k) stage) e s.1))))
      pick (no n) = (s.0, subst (λ (t : Record). DataWait t stage) (sym (other_record core i j q n)) s.1)
  wait_kept q (Acknowledge j buffer sent) f g s = pick (dec_eq j i)
    where
      pick : Dec (j ≡ i) → WaitSound (with_record core i q) (Acknowledge j buffer sent)
      pick (yes e) =
          (s.0, subst (λ (k : ℕ). AcknowledgeWait (record_at (with_record core i q) k) buffer sent) (sym e) (subst (λ (t : Record). AcknowledgeWait t buffer sent) (sym (record_given core i q at)) (g buffer sent (ap (λ (k : ℕ). Acknowledge k buffer sent) e) (subst (λ (k : ℕ). AcknowledgeWait (record_at core k) buffer sent) e s.1))))
      pick (no n) = (s.0, subst (λ (t : Record). AcknowledgeWait t buffer sent) (sym (other_record core i j q n)) s.1)

  -- replacing a record by a sound compatible one keeps the state sound
  pub replaced : (q : Record) → RecordSound core.memory_size core.speed q → pairs beside (set core.records i q) ≡ true → pairs apart (armed_spans (set core.records i q)) ≡ true → WaitSound (with_record core i q) core.wait → Sound (with_record core i q)
  replaced q sound served spans wait =
      record {
        sixteen = length-set core.records i q ∙ w.sixteen;
        memory_within = w.memory_within;
        address_within = w.address_within;
        each_record = each;
        served_once = served;
        spans_apart = spans;
        wait_sound = wait;
      }
    where
      each : (k : ℕ) → k < 16 → RecordSound core.memory_size core.speed (record_at (with_record core i q) k)
      each k m = pick (dec_eq k i)
        where
          pick : Dec (k ≡ i) → RecordSound core.memory_size core.speed (record_at (with_record core i q) k)
          pick (yes e) = subst (λ (j : ℕ). RecordSound core.memory_size core.speed (record_at (with_record core i q) j)) (sym e) (subst (RecordSound core.memory_size core.speed) (sym (record_given core i q at)) sound)
          pick (no n) = subst (RecordSound core.memory_size core.speed) (sym (other_record core i k q n)) (w.each_record k m)

-- ---- all records off

pub all_off : (core : Core) → core.memory_size ≤ 131072 → core.address ≤ 127 → core.records ≡ replicate 16 off_record → core.wait ≡ Nothing → Sound core
unfolding beside
all_off core m a e v =
    record {
      sixteen = rw e;
      memory_within = m;
      address_within = a;
      each_record = λ i h. subst (RecordSound core.memory_size core.speed) (sym (ap (λ (l : List Record). get_or l i off_record) e ∙ get_or-replicate 16 i off_record off_record h)) refl;
      served_once = rw e;
      spans_apart = rw e;
      wait_sound = subst (WaitSound core) (sym v) tt;
    }
