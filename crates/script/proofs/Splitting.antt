-- A line's words, found from space to space; two words held against each other. Assumes nothing.
use Prim.Native.Nat.{ℕ, zero, suc, ◌+◌, ◌<◌}
use native.Mathlib.Omega.{arith}
use mathlib.Core.Path.{◌≡◌, refl, sym, ap, ◌∙◌}
use mathlib.Core.Bool.{Bool, true, false, cond, and-false}
use mathlib.Core.List.{List, [], ◌∷◌}
use lib.Dec.{eqb}
use lib.ListN.{length, take, drop}
use Rattle.std.specs.List.{slice_split, slice_get, onto_first}
use Rattle.std.specs.Option.{option_map, unwrap_or}
use Rattle.std.proofs.Common.{Option, Some, None, Bor}
use Rattle.script.specs.Scan.{index_of, index_after}
use Rattle.script.specs.Words.{in_front, words_of, nth, word_at, same}

-- ---- how many

pub some : (line : List ℕ) → 0 < length (words_of line)
unfolding words_of
some [] = omega arith
some (c ∷ rest) = pick (eqb c 32) (words_of rest)
  where
    pick : (b : Bool) (words : List (List ℕ)) → 0 < length (cond b ([] ∷ words) (in_front c words))
    pick true words = omega arith
    pick false [] = omega arith
    pick false (word ∷ words) = omega arith

-- ---- which

front : (c : ℕ) (words : List (List ℕ)) → nth 0 (in_front c words) ≡ c ∷ nth 0 words
front c [] = refl
front c (word ∷ words) = refl

behind : (c k : ℕ) (words : List (List ℕ)) → nth (suc k) (in_front c words) ≡ nth (suc k) words
behind c k [] = refl
behind c k (word ∷ words) = refl

-- the first ends at the first space, the later ones stand behind it, and where there is none there is no later one
pub first_word : (line : List ℕ) → word_at 0 line ≡ take (index_of 32 line) line
unfolding words_of index_of index_after
first_word [] = refl
first_word (c ∷ rest) = pick (eqb c 32) (first_word rest)
  where
    pick : (b : Bool) → word_at 0 rest ≡ take (index_of 32 rest) rest → nth 0 (cond b ([] ∷ words_of rest) (in_front c (words_of rest))) ≡ take (index_after b (index_of 32 rest)) (c ∷ rest)
    pick true e = refl
    pick false e = front c (words_of rest) ∙ ap (λ (word : List ℕ). c ∷ word) e

pub later_word : (k : ℕ) (line : List ℕ) → index_of 32 line < length line → word_at (suc k) line ≡ word_at k (drop (index_of 32 line + 1) line)
unfolding words_of index_of index_after
later_word k [] h = absurd (omega arith)
later_word k (c ∷ rest) h = pick (eqb c 32) h (later_word k rest)
  where
    pick : (b : Bool) → index_after b (index_of 32 rest) < suc (length rest) → (index_of 32 rest < length rest → word_at (suc k) rest ≡ word_at k (drop (index_of 32 rest + 1) rest)) → nth (suc k) (cond b ([] ∷ words_of rest) (in_front c (words_of rest))) ≡ word_at k (drop (index_after b (index_of 32 rest) + 1) (c ∷ rest))
    pick true e later = refl
    pick false e later = behind c k (words_of rest) ∙ later (omega arith) ∙ (let next : suc (index_of 32 rest) + 1 ≡ suc (index_of 32 rest + 1) = omega arith in rw next)

pub no_word : (k : ℕ) (line : List ℕ) → index_of 32 line ≡ length line → word_at (suc k) line ≡ []
unfolding words_of index_of index_after
no_word k [] h = refl
no_word k (c ∷ rest) h = pick (eqb c 32) h (no_word k rest)
  where
    pick : (b : Bool) → index_after b (index_of 32 rest) ≡ suc (length rest) → (index_of 32 rest ≡ length rest → word_at (suc k) rest ≡ []) → nth (suc k) (cond b ([] ∷ words_of rest) (in_front c (words_of rest))) ≡ []
    pick true e none = absurd (omega arith)
    pick false e none = behind c k (words_of rest) ∙ none (omega arith)

-- ---- the library's words

pub words_split : (line : List ℕ) → slice_split (λ c. eqb c 32) line ≡ words_of line
unfolding words_of
words_split [] = refl
words_split (c ∷ rest) = rw (words_split rest) (pick (words_of rest))
  where
    pick : (words : List (List ℕ)) → cond (eqb c 32) ([] ∷ words) (onto_first c words) ≡ cond (eqb c 32) ([] ∷ words) (in_front c words)
    pick [] = refl
    pick (word ∷ words) = refl

nth_get : (words : List (List ℕ)) (k : ℕ) → nth k words ≡ unwrap_or (slice_get words k) []
nth_get [] k = refl
nth_get (word ∷ words) zero = refl
nth_get (word ∷ words) (suc k) = nth_get words k

pub word_got : (line : List ℕ) (k : ℕ) (r : Option (Bor (List ℕ))) (other : Bor (List ℕ)) → other.now ≡ [] → option_map (λ x. x.now) r ≡ slice_get (slice_split (λ c. eqb c 32) line) k → (unwrap_or r other).now ≡ word_at k line
word_got line k r other n e = pick r e ∙ ap (λ (words : List (List ℕ)). unwrap_or (slice_get words k) []) (words_split line) ∙ sym (nth_get (words_of line) k)
  where
    pick : (o : Option (Bor (List ℕ))) → option_map (λ x. x.now) o ≡ slice_get (slice_split (λ c. eqb c 32) line) k → (unwrap_or o other).now ≡ unwrap_or (slice_get (slice_split (λ c. eqb c 32) line) k) []
    pick None f = rw⁻¹ f n
    pick (Some x) f = rw⁻¹ f refl

-- ---- the same word

pub other_length : (a b : List ℕ) → (length a ≡ length b → ⊥) → same a b ≡ false
other_length [] [] h = absurd (h refl)
other_length [] (d ∷ ds) h = refl
other_length (c ∷ cs) [] h = refl
other_length (c ∷ cs) (d ∷ ds) h = rw (other_length cs ds (λ e. h (ap suc e))) (and-false (eqb c d))
