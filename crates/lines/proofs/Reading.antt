-- One text more is read, whole or as far as an answer. Assumes nothing.
use Rattle.std.proofs.Common.{ℕ, refl, Result, Ok, Err, OnErr, Bool, true, false, cond, eqb, List, [], ◌∷◌, ◌++◌}
use Rattle.std.specs.List.{onto_first}
use mathlib.Core.Logic.{inl, inr}
use Rattle.lines.specs.Lines.{parts_of, BehindPart, Fed, FedPart, Read, ReadPart}

pub on_err : {T E P : Type 0} (r : Result T E) → P → OnErr r P
on_err (Ok _) p = tt
on_err (Err _) p = p

module _ {T : Type 0} (taken : T → List ℕ → T → Type 0) (answered : T → T → Type 0) where
  pub read_more : (texts : List (List ℕ)) (text : List ℕ) (before next after : T) → Read taken answered before texts next
      → Fed taken answered next (parts_of text) after → Read taken answered before (texts ++ text ∷ []) after
  read_more [] text before next after same fed = (after, rw same fed, refl)
  read_more (t ∷ texts) text before next after (m, first, rest) fed = (m, first, read_more texts text m next after rest fed)

  pub stop_more : (texts : List (List ℕ)) (text : List ℕ) (before next after : T) → Read taken answered before texts next
      → FedPart taken answered next (parts_of text) after → ReadPart taken answered before (texts ++ text ∷ []) after
  stop_more [] text before next after same part = inl (rw same part)
  stop_more (t ∷ texts) text before next after (m, first, rest) part = inr (m, first, stop_more texts text m next after rest part)

  pub stop_behind : (text : List ℕ) (before after : T) → answered before after → BehindPart taken answered before (parts_of text) after
  stop_behind [] before after a = inl a
  stop_behind (c ∷ rest) before after a = pick (eqb c 10) (parts_of rest)
    where
      pick : (b : Bool) (parts : List (List ℕ)) → BehindPart taken answered before (cond b ([] ∷ parts) (onto_first c parts)) after
      pick true parts = inl a
      pick false [] = inl a
      pick false (p ∷ ps) = inl a
