-- The search finds the one live record of number and direction, or there is none. Assumes nothing.
use Prim.Native.Nat.{ℕ, suc, ◌+◌, ◌<◌}
use native.Mathlib.Decide.{dec_le}
use native.Mathlib.Omega.{arith}
use mathlib.Core.Path.{◌≡◌, refl, sym, ◌∙◌, subst}
use mathlib.Core.Bool.{Bool, true, false, ◌&&◌, ◌||◌, true≢false}
use lib.Dec.{eqb}
use borrow.Author.Tests.{eqb-true, eq-eqb}
use Rattle.std.specs.Prelude.{Option, Some, None}
use Rattle.laws.proofs.Bools.{both, dec_eq}
use Rattle.laws.proofs.Lists.{FirstAt, matched}
use Rattle.laws.proofs.Pairs.{pair_at}
use Rattle.state.specs.declared.Kind.{Kind}
use Rattle.state.specs.declared.Record.{Record}
use Rattle.state.specs.declared.Core.{Core}
use Rattle.state.specs.Update.{off_record, record_at}
use Rattle.state.specs.Ranges.{live}
use Rattle.state.specs.Served.{serves_out, serves_in, beside}
use Rattle.state.specs.Sound.{Sound}
use Rattle.bus.specs.declared.active.Direction.{Direction}
use Rattle.bus.specs.declared.active.Direction.TheVariants.{Out, In}
use Rattle.bus.specs.Active.{serves}
use Rattle.bus.specs.Search.{served_by, found_in}
use Rattle.bus.proofs.Serving.{Serving}

-- ---- a record that serves is live and on that side

pub serving_parts : (number : ℕ) (direction : Direction) (r : Record) → served_by number direction r ≡ true → (live r.condition ≡ true) × (r.endpoint.number ≡ number) × (serves direction r.endpoint.kind ≡ true)
unfolding served_by
serving_parts number direction r e =
    let a = both (live r.condition && eqb r.endpoint.number number) (serves direction r.endpoint.kind) e in
    let b = both (live r.condition) (eqb r.endpoint.number number) a.0 in
    (b.0, eqb-true r.endpoint.number number b.1, a.1)

-- ---- no two live records serve one number in one direction

-- two kinds that serve a direction have it in common
in_common : (direction : Direction) (a b : Kind) → serves direction a ≡ true → serves direction b ≡ true → (serves_out a && serves_out b || serves_in a && serves_in b) ≡ true
in_common Out a b p q = rw (p, q)
in_common In a b p q = common_in (serves_out a && serves_out b) p q
  where
    common_in : (x : Bool) → serves_in a ≡ true → serves_in b ≡ true → (x || serves_in a && serves_in b) ≡ true
    common_in true p q = refl
    common_in false p q = rw (p, q)

not_beside : (number : ℕ) (direction : Direction) (r s : Record) → served_by number direction r ≡ true → served_by number direction s ≡ true → beside r s ≡ false
unfolding beside
not_beside number direction r s e f =
    let p = serving_parts number direction r e in
    let q = serving_parts number direction s f in
    rw (p.0, q.0, eq-eqb r.endpoint.number s.endpoint.number (p.1 ∙ sym q.1), in_common direction r.endpoint.kind s.endpoint.kind p.2 q.2)

-- ---- the search

abbrev pub Searched : Core → ℕ → Direction → Option ℕ → Type 0
Searched core number direction (Some i) =
    (i < 16) × (served_by number direction (record_at core i) ≡ true) × ((j : ℕ) → j < 16 → served_by number direction (record_at core j) ≡ true → j ≡ i)
Searched core number direction None = (j : ℕ) → j < 16 → served_by number direction (record_at core j) ≡ false

module _ (core : Core) (w : Sound core) (number : ℕ) (direction : Direction) where
  only : (i j : ℕ) → i < 16 → j < 16 → served_by number direction (record_at core i) ≡ true → served_by number direction (record_at core j) ≡ true → i < j → ⊥
  only i j h k e f less =
      true≢false (sym (pair_at beside off_record core.records i j less (omega (arith, k, w.sixteen)) w.served_once) ∙ not_beside number direction (record_at core i) (record_at core j) e f)

  pub searched : Searched core number direction (found_in number direction core.records)
  unfolding found_in
  searched =
      matched (served_by number direction) Some None off_record (Searched core number direction) 0 core.records
      (λ i p. let same : i ≡ i + 0 = omega arith in subst (λ (n : ℕ). Searched core number direction (Some n)) same (omega (arith, p.within, w.sixteen), p.passes, one i p))
      (λ none j h. none j (omega (arith, h, w.sixteen)))
    where
      one : (i : ℕ) → FirstAt (served_by number direction) off_record core.records i → (j : ℕ) → j < 16 → served_by number direction (record_at core j) ≡ true → j ≡ i
      one i p j k f = pick (dec_eq j i)
        where
          pick : Dec (j ≡ i) → j ≡ i
          pick (yes e) = e
          pick (no n) =
              let h : i < 16 = omega (arith, p.within, w.sixteen) in
              absurd (apart (dec_le (suc i) j) h)
            where
              apart : Dec (i < j) → i < 16 → ⊥
              apart (yes less) h = only i j h k p.passes f less
              apart (no more) h = only j i k h f p.passes (omega (arith, n, more))

  pub found_serving : (i : ℕ) → Searched core number direction (Some i) → Serving core i direction
  found_serving i s =
      let p = serving_parts number direction (record_at core i) s.1 in
      record { index = s.0; is_live = p.0; side = p.2 }
