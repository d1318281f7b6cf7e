-- A line grows by characters of its last word, or by a space: its words then. Assumes nothing.
use Prim.Native.Nat.{ℕ, ◌-◌, ◌*◌, ◌≤◌, ◌<◌}
use native.Mathlib.Omega.{arith}
use mathlib.Core.Path.{◌≡◌, refl, sym, ap, ◌∙◌}
use mathlib.Core.Bool.{Bool, true, false, not, cond}
use mathlib.Core.List.{List, [], ◌∷◌, ◌++◌, map, append_assoc}
use lib.Dec.{eqb}
use lib.ListN.{length, length-append}
use borrow.Author.Tests.{not-true}
use Rattle.laws.proofs.Bools.{both}
use Rattle.script.specs.Words.{in_front, words_of}
use Rattle.script.specs.Intake.{unled, shortened, joined, last_of, short_of}
use Rattle.script.specs.Holding.{unspaced}
use Rattle.script.proofs.Shortening.{shortened_length, shortened_some}
use Rattle.script.proofs.Splitting.{some}

-- ---- its words

-- characters behind the last word
abbrev on_last : List ℕ → List (List ℕ) → List (List ℕ)
on_last run [] = []
on_last run (word ∷ []) = (word ++ run) ∷ []
on_last run (word ∷ next ∷ words) = word ∷ on_last run (next ∷ words)

pub one_word : (run : List ℕ) → unspaced run ≡ true → words_of run ≡ run ∷ []
unfolding words_of
one_word [] h = refl
one_word (c ∷ run) h =
    let p = both (not (eqb c 32)) (unspaced run) h in
    rw (not-true (eqb c 32) p.0, one_word run p.1)

words_longer : (line run : List ℕ) → unspaced run ≡ true → words_of (line ++ run) ≡ on_last run (words_of line)
unfolding words_of
words_longer [] run h = one_word run h
words_longer (c ∷ line) run h = rw (words_longer line run h) (pick (eqb c 32) (words_of line) (some line))
  where
    pick : (t : Bool) (words : List (List ℕ)) → 0 < length words → cond t ([] ∷ on_last run words) (in_front c (on_last run words)) ≡ on_last run (cond t ([] ∷ words) (in_front c words))
    pick true [] k = absurd (omega arith)
    pick true (word ∷ words) k = refl
    pick false [] k = absurd (omega arith)
    pick false (word ∷ []) k = refl
    pick false (word ∷ next ∷ words) k = refl

words_ended : (line : List ℕ) → words_of (line ++ (32 ∷ [])) ≡ words_of line ++ ([] ∷ [])
unfolding words_of
words_ended [] = refl
words_ended (c ∷ line) = rw (words_ended line) (pick (eqb c 32) (words_of line) (some line))
  where
    pick : (t : Bool) (words : List (List ℕ)) → 0 < length words → cond t ([] ∷ (words ++ ([] ∷ []))) (in_front c (words ++ ([] ∷ []))) ≡ cond t ([] ∷ words) (in_front c words) ++ ([] ∷ [])
    pick true words k = refl
    pick false [] k = absurd (omega arith)
    pick false (word ∷ words) k = refl

-- ---- the last of them, and what stands in front of it

abbrev pub ahead : List (List ℕ) → List ℕ
ahead [] = []
ahead (word ∷ []) = []
ahead (word ∷ next ∷ words) = word ++ (32 ∷ ahead (next ∷ words))

joined_parts : (words : List (List ℕ)) → joined words ≡ ahead words ++ last_of words
joined_parts [] = refl
joined_parts (word ∷ []) = refl
joined_parts (word ∷ next ∷ words) =
    rw (joined_parts (next ∷ words)) (sym (append_assoc word (32 ∷ ahead (next ∷ words)) (last_of (next ∷ words))))

last_shortened : (words : List (List ℕ)) → last_of (map shortened words) ≡ shortened (last_of words)
unfolding shortened unled
last_shortened [] = refl
last_shortened (word ∷ []) = refl
last_shortened (word ∷ next ∷ words) = last_shortened (next ∷ words)

ahead_longer : (run : List ℕ) (words : List (List ℕ)) → ahead (map shortened (on_last run words)) ≡ ahead (map shortened words)
ahead_longer run [] = refl
ahead_longer run (word ∷ []) = refl
ahead_longer run (word ∷ next ∷ []) = refl
ahead_longer run (word ∷ next ∷ third ∷ words) = ap (λ (rest : List ℕ). shortened word ++ (32 ∷ rest)) (ahead_longer run (next ∷ third ∷ words))

last_longer : (run : List ℕ) (words : List (List ℕ)) → 0 < length words → last_of (on_last run words) ≡ last_of words ++ run
last_longer run [] k = absurd (omega arith)
last_longer run (word ∷ []) k = refl
last_longer run (word ∷ next ∷ []) k = refl
last_longer run (word ∷ next ∷ third ∷ words) k = last_longer run (next ∷ third ∷ words) (omega arith)

ahead_ended : (words : List (List ℕ)) → 0 < length words → ahead (map shortened (words ++ ([] ∷ []))) ≡ joined (map shortened words) ++ (32 ∷ [])
ahead_ended [] k = absurd (omega arith)
ahead_ended (word ∷ []) k = refl
ahead_ended (word ∷ next ∷ words) k =
    rw (ahead_ended (next ∷ words) (omega arith)) (sym (append_assoc (shortened word) (32 ∷ joined (map shortened (next ∷ words))) (32 ∷ [])))

last_ended : (words : List (List ℕ)) → last_of (words ++ ([] ∷ [])) ≡ []
last_ended [] = refl
last_ended (word ∷ []) = refl
last_ended (word ∷ next ∷ words) = last_ended (next ∷ words)

-- ---- of a line

-- what is kept of it in front of its last word
abbrev pub front_of : List ℕ → List ℕ
front_of line = ahead (map shortened (words_of line))

abbrev pub word_of : List ℕ → List ℕ
word_of line = last_of (words_of line)

pub short_parts : (line : List ℕ) → short_of line ≡ front_of line ++ shortened (word_of line)
short_parts line = joined_parts (map shortened (words_of line)) ∙ ap (λ (word : List ℕ). front_of line ++ word) (last_shortened (words_of line))

module _ (line : List ℕ) where
  module _ (run : List ℕ) (h : unspaced run ≡ true) where
    pub front_longer : front_of (line ++ run) ≡ front_of line
    front_longer = rw (words_longer line run h) (ahead_longer run (words_of line))

    pub word_longer : word_of (line ++ run) ≡ word_of line ++ run
    word_longer = rw (words_longer line run h) (last_longer run (words_of line) (some line))

  pub front_ended : front_of (line ++ (32 ∷ [])) ≡ (front_of line ++ shortened (word_of line)) ++ (32 ∷ [])
  front_ended = rw (words_ended line) (ahead_ended (words_of line) (some line) ∙ ap (◌++ (32 ∷ [])) (short_parts line))

  pub word_ended : word_of (line ++ (32 ∷ [])) ≡ []
  word_ended = rw (words_ended line) (last_ended (words_of line))

-- ---- how long

pub short_some : (c : ℕ) (line : List ℕ) → 0 < length (short_of (c ∷ line))
unfolding words_of
short_some c line = pick (eqb c 32) (words_of line) (some line)
  where
    spaced : (word rest : List ℕ) → 0 < length (word ++ (32 ∷ rest))
    spaced word rest = omega (arith, length-append word (32 ∷ rest))

    pick : (t : Bool) (words : List (List ℕ)) → 0 < length words → 0 < length (joined (map shortened (cond t ([] ∷ words) (in_front c words))))
    pick true [] k = absurd (omega arith)
    pick true (word ∷ words) k = spaced (shortened []) (joined (map shortened (word ∷ words)))
    pick false [] k = absurd (omega arith)
    pick false (word ∷ []) k = shortened_some c word
    pick false (word ∷ next ∷ words) k = spaced (shortened (c ∷ word)) (joined (map shortened (next ∷ words)))

ahead_length : (words : List (List ℕ)) → length (ahead (map shortened words)) ≤ 17 * (length words - 1)
ahead_length [] = omega arith
ahead_length (word ∷ []) = omega arith
ahead_length (word ∷ next ∷ words) =
    omega (arith, ahead_length (next ∷ words), shortened_length word, length-append (shortened word) (32 ∷ ahead (map shortened (next ∷ words))))

-- of eight words or fewer the last begins among what is kept
pub last_near : (line : List ℕ) → length (words_of line) ≤ 8 → length (front_of line) < 136
last_near line h = omega (arith, ahead_length (words_of line))
