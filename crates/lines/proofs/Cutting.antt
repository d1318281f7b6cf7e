-- A text is cut at its first line's end. Assumes nothing.
use Rattle.std.proofs.Common.{ℕ, suc, ◌+◌, ◌-◌, ◌≤◌, ◌≡◌, refl, sym, Bool, true, false, not, cond, List, [], ◌∷◌, Some, None, eqb, ltb, length, take, drop, arith, Bor, length-drop}
use Rattle.std.specs.List.{onto_first, position_or_len}
use Rattle.std.proofs.Math.Seq.{take-length}
use Rattle.std.proofs.lemmas.Bool.{ltb-true, ltb-false}
use Rattle.std.proofs.lemmas.List.Splits.{slice_split_first}
use Rattle.lines.specs.Lines.{parts_of, Cut}

pub all_behind : (text : List ℕ) (k : ℕ) → take (length text - k) (drop k text) ≡ drop k text
all_behind text k = let n : length text - k ≡ length (drop k text) = sym (length-drop k text) in rw n (take-length (drop k text))

abbrev pub place : List ℕ → ℕ
place text = position_or_len (λ c. eqb c 10) text

whole : (text : List ℕ) → length text ≤ place text → parts_of text ≡ text ∷ []
whole [] h = refl
whole (c ∷ rest) h = pick (eqb c 10) h (whole rest)
  where
    pick : (b : Bool) → suc (length rest) ≤ cond (not b) (1 + place rest) 0 → (length rest ≤ place rest → parts_of rest ≡ rest ∷ [])
        → cond b ([] ∷ parts_of rest) (onto_first c (parts_of rest)) ≡ (c ∷ rest) ∷ []
    pick true g r = let no : ⊥ = omega arith in absurd no
    pick false g r = rw (r (omega arith)) refl

-- no line ends
pub uncut : (text : List ℕ) → None ≡ cond (ltb (place text) (length text)) (Some (place text)) None → Cut text text None
uncut text e = pick (ltb (place text) (length text)) refl e
  where
    pick : (b : Bool) → ltb (place text) (length text) ≡ b → None ≡ cond b (Some (place text)) None → Cut text text None
    pick true t f = cc
    pick false t f = record { parts = whole text (ltb-false (place text) (length text) t); shorter = omega arith }

-- a line ends at this place
pub cut_at : (text : List ℕ) (end : ℕ) (behind : Bor (List ℕ)) → Some end ≡ cond (ltb (place text) (length text)) (Some (place text)) None
    → behind.now ≡ drop (end + 1) text → Cut text (take end text) (Some behind)
cut_at text end behind e same = pick (ltb (place text) (length text)) refl e
  where
    pick : (b : Bool) → ltb (place text) (length text) ≡ b → Some end ≡ cond b (Some (place text)) None → Cut text (take end text) (Some behind)
    pick true t f =
        let at : end ≡ place text = cc in
        let within = ltb-true (place text) (length text) t in
        record {
          parts = rw (same, at) (slice_split_first (λ c. eqb c 10) text 0 within);
          shorter = rw (same, length-drop) (omega (arith, at, within));
        }
    pick false t f = cc
