-- The test of the sound state says yes exactly when the state is sound: `tested` one way, `passes` the other. Assumes nothing.
use Prim.Native.Nat.{ℕ, ◌-◌, ◌<◌}
use native.Mathlib.Omega.{arith}
use mathlib.Core.Path.{◌≡◌, refl, sym, ◌∙◌, ap}
use mathlib.Core.Bool.{Bool, true, false, not, cond, beq, false≢true}
use mathlib.Core.List.{List, [], ◌∷◌}
use lib.Dec.{leb, eqb}
use lib.ListN.{length}
use borrow.Author.Tests.{leb-true, le-leb, eqb-true, eq-eqb, not-true}
use Rattle.laws.specs.Lists.{all, pairs}
use Rattle.laws.proofs.Bools.{Each, parts, joined}
use Rattle.laws.proofs.Lists.{all_at, all_from}
use Rattle.state.specs.declared.Speed.{Speed}
use Rattle.state.specs.declared.Condition.{Condition}
use Rattle.state.specs.declared.Condition.TheVariants.{Off, Normal, Halted}
use Rattle.state.specs.declared.Descriptor.{Descriptor}
use Rattle.state.specs.declared.Descriptor.TheVariants.{Unallocated, Armed}
use Rattle.state.specs.declared.Record.{Record}
use Rattle.state.specs.declared.Stage.{Stage}
use Rattle.state.specs.declared.Wait.{Wait}
use Rattle.state.specs.declared.Wait.TheVariants.{Nothing, Data, Acknowledge}
use Rattle.state.specs.declared.Core.{Core}
use Rattle.state.specs.Update.{off_record, buffer_of, record_at}
use Rattle.state.specs.Ranges.{live, out_side, misplaced, mark_fits, endpoint_fits, toggles_fit, DescriptorSound, descriptor_fits, LiveSound, live_fits, is_zero, SoundAs, RecordSound, record_fits}
use Rattle.state.specs.Served.{serves_out, serves_in, beside}
use Rattle.state.specs.Spans.{apart, armed_spans}
use Rattle.state.specs.Sound.{stage_fits, sender, sends, DataWait, AcknowledgeWait, WaitSound, wait_record, data_fits, acknowledge_fits, wait_fits, Sound, is_sound}
use Rattle.state.proofs.Zero.{zero_off}

-- ---- two Bools that are tested for equality

same : (a b : Bool) → beq a b ≡ true → a ≡ b
same true true e = refl
same true false e = absurd (false≢true e)
same false true e = absurd (false≢true e)
same false false e = refl

alike : (a : Bool) → beq a a ≡ true
alike true = refl
alike false = refl

-- ---- a descriptor

pub descriptor_sound : (M : ℕ) (out : Bool) (maximum : ℕ) (d : Descriptor) → descriptor_fits M out maximum d ≡ true → DescriptorSound M out maximum d
descriptor_sound M out maximum Unallocated e = tt
descriptor_sound M out maximum (Armed base length done used) e =
    let p = parts (not (misplaced M out maximum base length)) (leb done length ∷ mark_fits out maximum length (length - done) used ∷ []) e in
    record { placed = not-true (misplaced M out maximum base length) p.0; done_within = leb-true done length p.1.0; mark = p.1.1.0 }

pub descriptor_fits_lem : (M : ℕ) (out : Bool) (maximum : ℕ) (d : Descriptor) → DescriptorSound M out maximum d → descriptor_fits M out maximum d ≡ true
descriptor_fits_lem M out maximum Unallocated w = refl
descriptor_fits_lem M out maximum (Armed base length done used) w =
    joined (not (misplaced M out maximum base length)) (leb done length ∷ mark_fits out maximum length (length - done) used ∷ []) (ap not w.placed, (le-leb done length w.done_within, (w.mark, tt)))

-- ---- a record

module _ (M : ℕ) (speed : Speed) (r : Record) where
  pub live_sound : live_fits M speed r ≡ true → LiveSound M speed r
  unfolding live_fits
  live_sound e =
      let p = parts (endpoint_fits speed r.endpoint) (toggles_fit r.endpoint.kind r.toggles ∷ descriptor_fits M (out_side r.endpoint.kind false) r.endpoint.maximum r.first ∷ descriptor_fits M (out_side r.endpoint.kind true) r.endpoint.maximum r.second ∷ []) e in
      record {
        endpoint_fitting = p.0;
        toggles_fitting = p.1.0;
        first_sound = descriptor_sound M (out_side r.endpoint.kind false) r.endpoint.maximum r.first p.1.1.0;
        second_sound = descriptor_sound M (out_side r.endpoint.kind true) r.endpoint.maximum r.second p.1.1.1.0;
      }

  pub live_fits_lem : LiveSound M speed r → live_fits M speed r ≡ true
  unfolding live_fits
  live_fits_lem w =
      joined (endpoint_fits speed r.endpoint) (toggles_fit r.endpoint.kind r.toggles ∷ descriptor_fits M (out_side r.endpoint.kind false) r.endpoint.maximum r.first ∷ descriptor_fits M (out_side r.endpoint.kind true) r.endpoint.maximum r.second ∷ [])
      (w.endpoint_fitting, (w.toggles_fitting, (descriptor_fits_lem M (out_side r.endpoint.kind false) r.endpoint.maximum r.first w.first_sound, (descriptor_fits_lem M (out_side r.endpoint.kind true) r.endpoint.maximum r.second w.second_sound, tt))))

  record_by : (c : Condition) → (live c ≡ false → is_zero r ≡ true → r ≡ off_record) → cond (live c) (live_fits M speed r) (is_zero r) ≡ true → SoundAs c M speed r
  record_by Off z e = z refl e
  record_by Normal z e = live_sound e
  record_by Halted z e = live_sound e

  pub record_sound : record_fits M speed r ≡ true → RecordSound M speed r
  unfolding record_fits
  record_sound e = record_by r.condition (zero_off r) e

zero_fits : is_zero off_record ≡ true
unfolding is_zero
zero_fits = refl

fits_by : (M : ℕ) (speed : Speed) (r : Record) (c : Condition) → SoundAs c M speed r → cond (live c) (live_fits M speed r) (is_zero r) ≡ true
fits_by M speed r Off w = ap is_zero w ∙ zero_fits
fits_by M speed r Normal w = live_fits_lem M speed r w
fits_by M speed r Halted w = live_fits_lem M speed r w

pub record_fits_lem : (M : ℕ) (speed : Speed) (r : Record) → RecordSound M speed r → record_fits M speed r ≡ true
unfolding record_fits
record_fits_lem M speed r w = fits_by M speed r r.condition w

-- ---- the wait

index : (i : ℕ) → leb i 15 ≡ true → i < 16
index i e = omega (arith, leb-true i 15 e)

data_sound : (r : Record) (stage : Stage) → data_fits r stage ≡ true → DataWait r stage
data_sound r stage e =
    let p = parts (live r.condition) (serves_out r.endpoint.kind ∷ stage_fits stage r.endpoint.kind ∷ []) e in
    record { is_live = p.0; out_side_served = p.1.0; stage_fitting = p.1.1.0 }

acknowledge_sound : (r : Record) (buffer : Bool) (sent : ℕ) → acknowledge_fits r buffer sent ≡ true → AcknowledgeWait r buffer sent
acknowledge_sound r buffer sent e =
    let p = parts (live r.condition) (serves_in r.endpoint.kind ∷ beq buffer (sender r) ∷ sends r.endpoint.maximum sent (buffer_of r buffer) ∷ []) e in
    record { is_live = p.0; in_side_served = p.1.0; sent_from = same buffer (sender r) p.1.1.0; sent_so_many = p.1.1.1.0 }

wait_sound : (core : Core) (wait : Wait) → leb (wait_record wait) 15 ≡ true → wait_fits (record_at core (wait_record wait)) wait ≡ true → WaitSound core wait
wait_sound core Nothing i e = tt
wait_sound core (Data n stage) i e = (index n i, data_sound (record_at core n) stage e)
wait_sound core (Acknowledge n buffer sent) i e = (index n i, acknowledge_sound (record_at core n) buffer sent e)

wait_within : (core : Core) (wait : Wait) → WaitSound core wait → leb (wait_record wait) 15 ≡ true
wait_within core Nothing w = refl
wait_within core (Data n stage) w = le-leb n 15 (omega (arith, w.0))
wait_within core (Acknowledge n buffer sent) w = le-leb n 15 (omega (arith, w.0))

wait_fits_lem : (core : Core) (wait : Wait) → WaitSound core wait → wait_fits (record_at core (wait_record wait)) wait ≡ true
wait_fits_lem core Nothing w = refl
wait_fits_lem core (Data n stage) w =
    joined (live (record_at core n).condition) (serves_out (record_at core n).endpoint.kind ∷ stage_fits stage (record_at core n).endpoint.kind ∷ []) (w.1.is_live, (w.1.out_side_served, (w.1.stage_fitting, tt)))
wait_fits_lem core (Acknowledge n buffer sent) w =
    joined (live (record_at core n).condition) (serves_in (record_at core n).endpoint.kind ∷ beq buffer (sender (record_at core n)) ∷ sends (record_at core n).endpoint.maximum sent (buffer_of (record_at core n) buffer) ∷ []) (w.1.is_live, (w.1.in_side_served, (ap (beq buffer) (sym w.1.sent_from) ∙ alike buffer, (w.1.sent_so_many, tt))))

-- ---- the whole

abbrev tests : Core → List Bool
tests core =
    leb core.memory_size 131072
    ∷ leb core.address 127
    ∷ all (record_fits core.memory_size core.speed) core.records
    ∷ pairs beside core.records
    ∷ pairs apart (armed_spans core.records)
    ∷ leb (wait_record core.wait) 15
    ∷ wait_fits (record_at core (wait_record core.wait)) core.wait
    ∷ []

pub tested : (core : Core) → is_sound core ≡ true → Sound core
unfolding is_sound
tested core e =
    record {
      sixteen = sixteen;
      memory_within = leb-true core.memory_size 131072 p.1.0;
      address_within = leb-true core.address 127 p.1.1.0;
      each_record = λ i h. record_sound core.memory_size core.speed (record_at core i) (all_at (record_fits core.memory_size core.speed) off_record core.records i (omega (arith, sixteen)) p.1.1.1.0);
      served_once = p.1.1.1.1.0;
      spans_apart = p.1.1.1.1.1.0;
      wait_sound = wait_sound core core.wait p.1.1.1.1.1.1.0 p.1.1.1.1.1.1.1.0;
    }
  where
    p : Each (eqb (length core.records) 16 ∷ tests core)
    p = parts (eqb (length core.records) 16) (tests core) e

    sixteen : length core.records ≡ 16
    sixteen = eqb-true (length core.records) 16 p.0

pub passes : (core : Core) → Sound core → is_sound core ≡ true
unfolding is_sound
passes core w =
    joined (eqb (length core.records) 16) (tests core)
    (eq-eqb (length core.records) 16 w.sixteen, (le-leb core.memory_size 131072 w.memory_within, (le-leb core.address 127 w.address_within, (all_from (record_fits core.memory_size core.speed) off_record core.records (λ i h. record_fits_lem core.memory_size core.speed (record_at core i) (w.each_record i (omega (arith, w.sixteen)))), (w.served_once, (w.spans_apart, (wait_within core core.wait w.wait_sound, (wait_fits_lem core core.wait w.wait_sound, tt))))))))
