-- The ends that live records serve are different exactly where the records can stand beside each other. Assumes nothing.
use mathlib.Core.Path.{◌≡◌, refl}
use mathlib.Core.Bool.{Bool, true, false, not, ◌&&◌, cond}
use mathlib.Core.List.{List, [], ◌∷◌}
use Rattle.laws.specs.Lists.{all, pairs}
use Rattle.laws.proofs.Lists.{all_true, all_gather, all_same}
use Rattle.state.specs.declared.Record.{Record}
use Rattle.state.specs.Update.{off_record}
use Rattle.state.specs.Ranges.{live}
use Rattle.state.specs.Served.{end_of, ends_of, ends, same_end, elsewhere, beside}

against : (r s : Record) → live r.condition ≡ true → all (elsewhere (end_of r.endpoint)) (ends_of s) ≡ beside r s
unfolding beside
against r s h = rw h (pick (live s.condition) (same_end (end_of r.endpoint) (end_of s.endpoint)))
  where
    pick : (l same : Bool) → all (elsewhere (end_of r.endpoint)) (cond l (end_of s.endpoint ∷ []) []) ≡ not (true && l && same_end (end_of r.endpoint) (end_of s.endpoint))
    pick true same = go (same_end (end_of r.endpoint) (end_of s.endpoint))
      where
        go : (b : Bool) → (not b && true) ≡ not b
        go true = refl
        go false = refl
    pick false same = refl

off_beside : (r s : Record) → live r.condition ≡ false → beside r s ≡ true
unfolding beside
off_beside r s h = rw h

-- an off record stands beside any
pub off_beside_all : (l : List Record) → all (beside off_record) l ≡ true
off_beside_all l = all_true (beside off_record) off_record (λ s. off_beside off_record s refl) l

pub ends_beside : (l : List Record) → pairs elsewhere (ends l) ≡ pairs beside l
ends_beside [] = refl
ends_beside (r ∷ l) = pick (ends_beside l) (live r.condition) refl
  where
    pick : pairs elsewhere (ends l) ≡ pairs beside l → (b : Bool) → live r.condition ≡ b → pairs elsewhere (ends (r ∷ l)) ≡ pairs beside (r ∷ l)
    pick ih true e =
        rw (e, ih, all_gather (elsewhere (end_of r.endpoint)) ends_of l, all_same (λ s. all (elsewhere (end_of r.endpoint)) (ends_of s)) (beside r) (λ s. against r s e) l)
    pick ih false e = rw (e, ih, all_true (beside r) off_record (λ s. off_beside r s e) l)
