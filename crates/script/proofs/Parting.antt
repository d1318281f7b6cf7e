-- A part of a line, from space to space: in front of the first space there is none. Assumes nothing.
use Rattle.std.proofs.Common.{ℕ, ◌+◌, ◌<◌, ◌≡◌, refl, sym, ap, ◌∙◌, Bool, true, false, not, cond, Option, Some, None, List, [], ◌∷◌, ◌++◌, append_assoc, eqb, ltb, length, take, drop}
use Rattle.std.specs.List.{position_or_len}
use Rattle.std.proofs.lemmas.Bool.{ltb-true, ltb-false}
use Rattle.std.proofs.lemmas.List.Sums.{passes_at_first, split_at_first}
use native.Mathlib.Numerals.{one-add}
use lib.Seq.{take_all}
use borrow.Author.Tests.{eqb-true}
use Rattle.script.specs.Holding.{unspaced}

abbrev place : List ℕ → ℕ
place part = position_or_len (λ c. eqb c 32) part

unspaced_before : (part : List ℕ) → unspaced (take (place part) part) ≡ true
unspaced_before [] = refl
unspaced_before (c ∷ rest) = pick (eqb c 32) refl (unspaced_before rest)
  where
    pick : (b : Bool) → eqb c 32 ≡ b → unspaced (take (place rest) rest) ≡ true → unspaced (take (cond (not b) (1 + place rest) 0) (c ∷ rest)) ≡ true
    pick true e h = refl
    pick false e h = rw (one-add, e, h)

-- the search for a space has found one at `end`, or none
module _ (part : List ℕ) (found : Option ℕ) (told : found ≡ cond (ltb (place part) (length part)) (Some (place part)) None) where
  module _ (end : ℕ) (is : found ≡ Some end) where
    at : (end ≡ place part) × (place part < length part)
    at = pick (ltb (place part) (length part)) refl (sym is ∙ told)
      where
        pick : (b : Bool) → ltb (place part) (length part) ≡ b → Some end ≡ cond b (Some (place part)) None → (end ≡ place part) × (place part < length part)
        pick true t e = (cc, ltb-true _ _ t)
        pick false t e = cc

    pub run_unspaced : unspaced (take end part) ≡ true
    run_unspaced = rw at.0 (unspaced_before part)

    pub run_and_space : (taken : List ℕ) → ((taken ++ take end part) ++ (32 ∷ [])) ++ drop (end + 1) part ≡ taken ++ part
    run_and_space taken =
        let whole = split_at_first (λ c. eqb c 32) part 0 at.1 in
        let space = eqb-true _ 32 (passes_at_first (λ c. eqb c 32) part 0 at.1) in
        rw (append_assoc, append_assoc, at.0) (ap (taken ++◌) (sym (rw space at whole)))

  pub run_alone : ((end : ℕ) → found ≡ Some end → ⊥) → unspaced part ≡ true
  run_alone none = pick (ltb (place part) (length part)) refl told
    where
      pick : (b : Bool) → ltb (place part) (length part) ≡ b → found ≡ cond b (Some (place part)) None → unspaced part ≡ true
      pick true t e = absurd (none _ e)
      pick false t e = rw (take_all (place part) part (ltb-false _ _ t)) at (unspaced_before part)
