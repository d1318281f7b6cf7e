-- A search among rows comes to the first whose name is the word, or past the last; what it finds stands at that name's place. Assumes nothing.
use Prim.Native.Nat.{ℕ, zero, suc, ◌+◌, ◌≤◌, ◌<◌}
use native.Mathlib.Numerals.{add-one}
use mathlib.Core.Path.{◌≡◌, refl, sym, ◌∙◌}
use mathlib.Core.Bool.{Bool, true, false}
use mathlib.Core.List.{List, [], ◌∷◌, map}
use lib.ListN.{length, get_or, drop, drop_of_length-le}
use lib.Seq.{drop-cons}
use Rattle.std.proofs.Common.{cond, Some, None}
use Rattle.std.specs.List.{slice_get}
use Rattle.script.specs.Words.{same, place_of, beside}

module _ {R A : Type 0} (read : R → List ℕ × A) (word : List ℕ) (rows : List R) (i : ℕ) (inv : beside word (map read rows) ≡ beside word (map read (drop i rows))) where
  module _ (row : R) (h : i < length rows) (is : row ≡ get_or rows i row) where
    left : drop i rows ≡ row ∷ drop (i + 1) rows
    left = drop-cons rows i row h ∙ rw (← is, add-one)

    pub row_found : same word (read row).0 ≡ true → Some (read row).1 ≡ beside word (map read rows)
    row_found e = sym (inv ∙ rw (left, e))

    pub row_passed : same word (read row).0 ≡ false → beside word (map read rows) ≡ beside word (map read (drop (i + 1) rows))
    row_passed e = inv ∙ rw (left, e)

  pub none_found : length rows ≤ i → None ≡ beside word (map read rows)
  none_found h = sym (inv ∙ rw (drop_of_length-le rows h))

pub beside_at : {A : Type 0} (word : List ℕ) (rows : List (List ℕ × A)) → beside word rows ≡ slice_get (map (λ row. row.1) rows) (place_of word (map (λ row. row.0) rows))
beside_at word [] = refl
beside_at word (row ∷ rows) = go (same word row.0) (beside_at word rows)
  where
    go : (b : Bool)
        → beside word rows ≡ slice_get (map (λ r. r.1) rows) (place_of word (map (λ r. r.0) rows))
        → cond b (Some row.1) (beside word rows) ≡ slice_get (row.1 ∷ map (λ r. r.1) rows) (cond b zero (suc (place_of word (map (λ r. r.0) rows))))
    go true e = refl
    go false e = e
