-- What a store makes of the record: the toggle flips, what the endpoint is stays, and the bytes read off are those of the buffer's place. Assumes nothing.
use Prim.Native.Nat.{ℕ, ◌+◌, ◌-◌}
use native.Mathlib.Omega.{arith}
use mathlib.Core.Path.{◌≡◌, refl, ◌∙◌, ap, ap₂}
use mathlib.Core.Bool.{Bool, true, false, not, ◌||◌, cond, beq, false≢true}
use mathlib.Core.List.{List, [], ◌∷◌, ◌++◌, append-nil}
use lib.Dec.{ltb}
use lib.ListN.{take, drop}
use Rattle.state.specs.declared.RecordEvents.{RecordEvents}
use Rattle.state.specs.declared.RecordEvent.TheVariants.{ShortPacket}
use Rattle.state.specs.declared.Descriptor.{Descriptor}
use Rattle.state.specs.declared.Descriptor.TheVariants.{Unallocated, Armed}
use Rattle.state.specs.declared.Record.{Record}
use Rattle.state.specs.Update.{with_next, with_events, noted, buffer_of, with_buffer}
use Rattle.state.specs.Ranges.{is_unused}
use Rattle.bus.specs.declared.active.Direction.TheVariants.{Out}
use Rattle.bus.specs.Active.{chosen, left_of, place_of, grown, spent, used_up, filled}
use Rattle.bus.specs.Data.{flipped_out, marked, taken}
use Rattle.demands.specs.Host.{grown_by, stored_in}

-- ---- a descriptor

none_grown : (d : Descriptor) (memory : List ℕ) → grown_by d d memory ≡ []
none_grown Unallocated memory = refl
none_grown (Armed base length done used) memory =
    let z : done - done ≡ 0 = omega arith in
    ap (λ (n : ℕ). take n (drop (base + done) memory)) z

grown_by_lem : (d : Descriptor) (n : ℕ) (used : Bool) (memory : List ℕ) → is_unused d ≡ true → grown_by d (cond used (spent (grown d n)) (grown d n)) memory ≡ take n (drop (place_of d) memory)
grown_by_lem Unallocated n used memory u = absurd (false≢true u)
grown_by_lem (Armed base length done used) n again memory u = go again
  where
    more : done + n - done ≡ n
    more = omega arith

    go : (b : Bool) → grown_by (Armed base length done used) (cond b (Armed base length (done + n) true) (Armed base length (done + n) used)) memory ≡ take n (drop (base + done) memory)
    go true = ap (λ (m : ℕ). take m (drop (base + done) memory)) more
    go false = ap (λ (m : ℕ). take m (drop (base + done) memory)) more

-- ---- the record

pub record Taken (r : Record) (second : Bool) (n : ℕ) (q : Record) : Type 0 where
  pub same_condition : q.condition ≡ r.condition
  pub same_endpoint : q.endpoint ≡ r.endpoint
  pub flipped : q.toggles.out_side ≡ not r.toggles.out_side
  pub one_stored : (memory : List ℕ) → is_unused (buffer_of r second) ≡ true → stored_in r q memory ≡ (take n (drop (place_of (buffer_of r second)) memory) ∷ [])

pub flips : (b : Bool) → beq b (not b) ≡ false
flips true = refl
flips false = refl

module _ (r : Record) (n : ℕ) where
  -- the buffer has grown, and is used up or marked
  abbrev advanced : Bool → Bool → Record
  advanced second used =
      let q = with_buffer r second (grown (buffer_of r second) n) in cond used (used_up q second) (with_next q second)

  in_first : (used : Bool) (memory : List ℕ) → is_unused r.first ≡ true → (grown_by r.first (cond used (spent (grown r.first n)) (grown r.first n)) memory ++ grown_by r.second r.second memory) ≡ take n (drop (place_of r.first) memory)
  in_first used memory u =
      ap₂ (λ (a b : List ℕ). a ++ b) (grown_by_lem r.first n used memory u) (none_grown r.second memory)
      ∙ append-nil (take n (drop (place_of r.first) memory))

  in_second : (used : Bool) (memory : List ℕ) → is_unused r.second ≡ true → (grown_by r.first r.first memory ++ grown_by r.second (cond used (spent (grown r.second n)) (grown r.second n)) memory) ≡ take n (drop (place_of r.second) memory)
  in_second used memory u =
      ap₂ (λ (a b : List ℕ). a ++ b) (none_grown r.first memory) (grown_by_lem r.second n used memory u)

  once : (grew_first grew_second : Bool) (bytes there : List ℕ) → bytes ≡ there → cond (not (beq r.toggles.out_side (not r.toggles.out_side)) || grew_first || grew_second) (bytes ∷ []) [] ≡ (there ∷ [])
  once grew_first grew_second bytes there e = rw (flips r.toggles.out_side) (ap (λ (x : List ℕ). x ∷ []) e)

  takes : (second used : Bool) (events : RecordEvents) → Taken r second n (with_events (flipped_out (advanced second used)) events)
  unfolding used_up
  takes false true events =
      record { same_condition = refl; same_endpoint = refl; flipped = refl; one_stored = λ memory u. once _ _ _ _ (in_first true memory u) }
  takes false false events =
      record { same_condition = refl; same_endpoint = refl; flipped = refl; one_stored = λ memory u. once _ _ _ _ (in_first false memory u) }
  takes true true events =
      record { same_condition = refl; same_endpoint = refl; flipped = refl; one_stored = λ memory u. once _ _ _ _ (in_second true memory u) }
  takes true false events =
      record { same_condition = refl; same_endpoint = refl; flipped = refl; one_stored = λ memory u. once _ _ _ _ (in_second false memory u) }

  pub is_taken : Taken r (chosen Out r) n (taken r n)
  unfolding taken filled marked
  is_taken = pick (ltb n q.endpoint.maximum)
    where
      second : Bool
      second = chosen Out r

      used : Bool
      used = ltb (left_of (grown (buffer_of r second) n)) r.endpoint.maximum

      q : Record
      q = flipped_out (advanced second used)

      pick : (short : Bool) → Taken r second n (cond short (with_events q (noted q.events ShortPacket)) q)
      pick true = takes second used (noted q.events ShortPacket)
      pick false = takes second used q.events
