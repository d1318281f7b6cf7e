-- Nothing is lost by shortening: a word kept is the same name and the same number as the word, and a line kept has as many words, the same ones
-- shortened. Assumes nothing.
use Prim.Native.Nat.{ℕ, zero, suc, ◌+◌, ◌-◌, ◌*◌, ◌≤◌, ◌<◌}
use native.Mathlib.Omega.{arith}
use native.Mathlib.Decide.{dec_le}
use mathlib.Core.Path.{◌≡◌, refl, sym, ap, ◌∙◌}
use mathlib.Core.Bool.{Bool, true, false, not, ◌&&◌, cond, and-false, true≢false}
use mathlib.Core.List.{List, [], ◌∷◌, ◌++◌, map}
use lib.Dec.{eqb}
use lib.ListN.{length, take, length-append, length-map, length-take}
use lib.Seq.{take_all, take-append-add}
use borrow.Author.Tests.{eqb-true, eqb-false, ne_eqb, lt-leb, not-true}
use Rattle.laws.specs.Lists.{all}
use Rattle.laws.proofs.Bools.{both}
use Rattle.script.specs.Numbers.{is_decimal, value_from, largest, number_from, number_of}
use Rattle.script.specs.Words.{in_front, words_of, nth, word_at, same}
use Rattle.script.specs.Intake.{unled, shortened, joined, kept_of}
use Rattle.script.specs.Holding.{unspaced}
use Rattle.std.proofs.Common.{None}
use Rattle.script.proofs.Numerals.{at_least, grows}
use Rattle.script.proofs.Shortening.{shortened_length, shortened_none}
use Rattle.script.proofs.Splitting.{some}
use Rattle.script.proofs.Appending.{one_word}

-- ---- a name

same_front : (n : ℕ) (word name : List ℕ) → length name < n → same (take n word) name ≡ same word name
same_front zero word name h = absurd (omega arith)
same_front (suc n) [] name h = refl
same_front (suc n) (c ∷ word) [] h = refl
same_front (suc n) (c ∷ word) (d ∷ name) h = rw (same_front n word name (omega arith))

digit_other : (c d : ℕ) → is_decimal c ≡ true → is_decimal d ≡ false → eqb c d ≡ false
digit_other c d p q = ne_eqb c d (λ e. true≢false (sym p ∙ ap is_decimal e ∙ q))

zero_decimal : is_decimal 48 ≡ true
unfolding is_decimal
zero_decimal = refl

-- a name shorter than what is kept, that begins with no digit
module _ (first : ℕ) (rest : List ℕ) (short : length (first ∷ rest) < 16) (letter : is_decimal first ≡ false) where
  name_unled : (word : List ℕ) → same (unled word) (first ∷ rest) ≡ same word (first ∷ rest)
  unfolding unled
  name_unled [] = refl
  name_unled (x ∷ []) = refl
  name_unled (x ∷ y ∷ more) = pick (eqb x 48 && is_decimal y) refl (name_unled (y ∷ more))
    where
      pick : (t : Bool) → (eqb x 48 && is_decimal y) ≡ t → same (unled (y ∷ more)) (first ∷ rest) ≡ same (y ∷ more) (first ∷ rest)
          → same (cond t (unled (y ∷ more)) (x ∷ y ∷ more)) (first ∷ rest) ≡ same (x ∷ y ∷ more) (first ∷ rest)
      pick true e k =
          let p = both (eqb x 48) (is_decimal y) e in
          k ∙ rw (eqb-true x 48 p.0, digit_other y first p.1 letter, digit_other 48 first zero_decimal letter)
      pick false e k = refl

  pub name_kept : (word : List ℕ) → same (shortened word) (first ∷ rest) ≡ same word (first ∷ rest)
  unfolding shortened
  name_kept word = same_front 16 (unled word) (first ∷ rest) short ∙ name_unled word

-- ---- a number

-- n with k zeros behind it
abbrev tens : ℕ → ℕ → ℕ
tens n zero = n
tens n (suc k) = tens (n * 10) k

grows_by : (k m n : ℕ) (word : List ℕ) → m ≤ n → k ≤ length word → tens m k ≤ value_from n word
grows_by zero m n word h e = omega (arith, grows n word)
grows_by (suc k) m n [] h e = absurd (omega arith)
grows_by (suc k) m n (c ∷ word) h e = grows_by k (m * 10) (n * 10 + (c - 48)) word (omega arith) (omega arith)

-- eleven digits, of which the first is no zero
too_long : (c : ℕ) (rest : List ℕ) → 48 < c → 10 ≤ length rest → number_of (c ∷ rest) ≡ None
unfolding number_of number_from
too_long c rest h k =
    let large : largest < value_from (0 * 10 + (c - 48)) rest = omega (arith, grows_by 10 1 (0 * 10 + (c - 48)) rest (omega arith) k) in
    rw (ne_eqb (length (c ∷ rest)) 0 (λ e. omega arith), lt-leb (value_from (0 * 10 + (c - 48)) rest) largest large, and-false (is_decimal c && all is_decimal rest))

first_no_digit : (c : ℕ) (rest : List ℕ) → is_decimal c ≡ false → number_of (c ∷ rest) ≡ None
unfolding number_of number_from
first_no_digit c rest e = rw (ne_eqb (length (c ∷ rest)) 0 (λ k. omega arith), e)

second_no_digit : (c d : ℕ) (rest : List ℕ) → is_decimal d ≡ false → number_of (c ∷ d ∷ rest) ≡ None
unfolding number_of number_from
second_no_digit c d rest e = rw (ne_eqb (length (c ∷ d ∷ rest)) 0 (λ k. omega arith), e, and-false (is_decimal c))

zero_in_front : (d : ℕ) (rest : List ℕ) → number_of (48 ∷ d ∷ rest) ≡ number_of (d ∷ rest)
unfolding number_of number_from
zero_in_front d rest = rw (ne_eqb (length (48 ∷ d ∷ rest)) 0 (λ k. omega arith), ne_eqb (length (d ∷ rest)) 0 (λ k. omega arith), zero_decimal)

-- a word without zeros in front is its first sixteen characters, or no number
front_number : (c d : ℕ) (rest : List ℕ) → (eqb c 48 && is_decimal d) ≡ false → number_of (take 16 (c ∷ d ∷ rest)) ≡ number_of (c ∷ d ∷ rest)
front_number c d rest led = pick (dec_le (length (c ∷ d ∷ rest)) 16)
  where
    long : 16 < length (c ∷ d ∷ rest) → (s t u : Bool) → is_decimal c ≡ s → is_decimal d ≡ t → eqb c 48 ≡ u → (u && t) ≡ false → number_of (c ∷ d ∷ take 14 rest) ≡ number_of (c ∷ d ∷ rest)
    long h s false u p q r e = second_no_digit c d (take 14 rest) q ∙ sym (second_no_digit c d rest q)
    long h false true u p q r e = first_no_digit c (d ∷ take 14 rest) p ∙ sym (first_no_digit c (d ∷ rest) p)
    long h true true true p q r e = absurd (true≢false e)
    long h true true false p q r e =
        let more : 48 < c = strict (at_least 0 c p) (eqb-false c 48 r) in
        too_long c (d ∷ take 14 rest) more (omega (arith, length-take 14 rest)) ∙ sym (too_long c (d ∷ rest) more (omega arith))
      where
        strict : 48 ≤ c → (c ≡ 48 → ⊥) → 48 < c
        strict k j = omega arith

    pick : Dec (length (c ∷ d ∷ rest) ≤ 16) → number_of (take 16 (c ∷ d ∷ rest)) ≡ number_of (c ∷ d ∷ rest)
    pick (yes h) = ap number_of (take_all 16 (c ∷ d ∷ rest) h)
    pick (no h) = long (omega arith) (is_decimal c) (is_decimal d) (eqb c 48) refl refl refl led

pub number_kept : (word : List ℕ) → number_of (shortened word) ≡ number_of word
unfolding shortened unled
number_kept [] = refl
number_kept (c ∷ []) = refl
number_kept (c ∷ d ∷ rest) = pick (eqb c 48 && is_decimal d) refl (number_kept (d ∷ rest))
  where
    pick : (t : Bool) → (eqb c 48 && is_decimal d) ≡ t → number_of (take 16 (unled (d ∷ rest))) ≡ number_of (d ∷ rest)
        → number_of (take 16 (cond t (unled (d ∷ rest)) (c ∷ d ∷ rest))) ≡ number_of (c ∷ d ∷ rest)
    pick true e k = k ∙ sym (rw (eqb-true c 48 (both (eqb c 48) (is_decimal d) e).0) (zero_in_front d rest))
    pick false e k = front_number c d rest e

-- ---- the words of a line

unled_unspaced : (word : List ℕ) → unspaced word ≡ true → unspaced (unled word) ≡ true
unfolding unled
unled_unspaced [] h = h
unled_unspaced (c ∷ []) h = h
unled_unspaced (c ∷ d ∷ rest) h = pick (eqb c 48 && is_decimal d) (unled_unspaced (d ∷ rest) (both (not (eqb c 32)) (unspaced (d ∷ rest)) h).1)
  where
    pick : (t : Bool) → unspaced (unled (d ∷ rest)) ≡ true → unspaced (cond t (unled (d ∷ rest)) (c ∷ d ∷ rest)) ≡ true
    pick true k = k
    pick false k = h

take_unspaced : (n : ℕ) (word : List ℕ) → unspaced word ≡ true → unspaced (take n word) ≡ true
take_unspaced zero word h = refl
take_unspaced (suc n) [] h = refl
take_unspaced (suc n) (c ∷ word) h = let p = both (not (eqb c 32)) (unspaced word) h in rw (p.0, take_unspaced n word p.1)

shortened_unspaced : (word : List ℕ) → unspaced word ≡ true → unspaced (shortened word) ≡ true
unfolding shortened
shortened_unspaced word h = take_unspaced 16 (unled word) (unled_unspaced word h)

words_unspaced : (line : List ℕ) → all unspaced (words_of line) ≡ true
unfolding words_of
words_unspaced [] = refl
words_unspaced (c ∷ line) = pick (eqb c 32) refl (words_of line) (words_unspaced line)
  where
    pick : (t : Bool) → eqb c 32 ≡ t → (words : List (List ℕ)) → all unspaced words ≡ true → all unspaced (cond t ([] ∷ words) (in_front c words)) ≡ true
    pick true e words h = h
    pick false e [] h = rw e
    pick false e (word ∷ words) h = rw e h

front_word : (word rest : List ℕ) → unspaced word ≡ true → words_of (word ++ (32 ∷ rest)) ≡ word ∷ words_of rest
unfolding words_of
front_word [] rest h = refl
front_word (c ∷ word) rest h =
    let p = both (not (eqb c 32)) (unspaced word) h in
    rw (not-true (eqb c 32) p.0, front_word word rest p.1)

-- ---- as many

joined_length : (words : List (List ℕ)) → length (joined (map shortened words)) ≤ 17 * length words
joined_length [] = omega arith
joined_length (word ∷ []) = omega (arith, shortened_length word)
joined_length (word ∷ next ∷ words) =
    omega (arith, joined_length (next ∷ words), shortened_length word, length-append (shortened word) (32 ∷ joined (map shortened (next ∷ words))))

words_joined : (words : List (List ℕ)) → all unspaced words ≡ true → 0 < length words → words_of (joined (map shortened words)) ≡ map shortened words
words_joined [] h k = absurd (omega arith)
words_joined (word ∷ []) h k = one_word (shortened word) (shortened_unspaced word (both (unspaced word) true h).0)
words_joined (word ∷ next ∷ words) h k =
    let p = both (unspaced word) (all unspaced (next ∷ words)) h in
    front_word (shortened word) (joined (map shortened (next ∷ words))) (shortened_unspaced word p.0) ∙ ap (shortened word ∷◌) (words_joined (next ∷ words) p.1 (omega arith))

words_past : (n m : ℕ) (words : List (List ℕ)) → all unspaced words ≡ true → n < length words → 17 * n ≤ m → n < length (words_of (take m (joined (map shortened words))))
words_past zero m words h k e = some (take m (joined (map shortened words)))
words_past (suc n) m [] h k e = absurd (omega arith)
words_past (suc n) m (word ∷ []) h k e = absurd (omega arith)
words_past (suc n) m (word ∷ next ∷ words) h k e =
    let p = both (unspaced word) (all unspaced (next ∷ words)) h in
    let first = shortened word in
    let later = joined (map shortened (next ∷ words)) in
    let left = m - (length first + 1) in
    let room : m ≡ length first + suc left = omega (arith, shortened_length word) in
    let split : take m (first ++ (32 ∷ later)) ≡ first ++ (32 ∷ take left later) = ap (λ (i : ℕ). take i (first ++ (32 ∷ later))) room ∙ take-append-add first (32 ∷ later) (suc left) in
    rw (split, front_word first (take left later) (shortened_unspaced word p.0))
    (omega (arith, words_past n left (next ∷ words) p.1 (omega arith) (omega (arith, shortened_length word))))

-- ---- a line

module _ (line : List ℕ) where
  kept_words : length (words_of line) ≤ 8 → words_of (kept_of line) ≡ map shortened (words_of line)
  unfolding kept_of
  kept_words h =
      rw (take_all 136 (joined (map shortened (words_of line))) (omega (arith, joined_length (words_of line)))) (words_joined (words_of line) (words_unspaced line) (some line))

  pub count_kept : length (words_of line) ≤ 8 → length (words_of (kept_of line)) ≡ length (words_of line)
  count_kept h = ap length (kept_words h) ∙ length-map (words_of line) shortened

  pub excess_kept : 8 < length (words_of line) → 8 < length (words_of (kept_of line))
  unfolding kept_of
  excess_kept h = words_past 8 136 (words_of line) (words_unspaced line) h (omega arith)

  pub word_kept : length (words_of line) ≤ 8 → (k : ℕ) → word_at k (kept_of line) ≡ shortened (word_at k line)
  word_kept h k = ap (nth k) (kept_words h) ∙ nth_shortened k (words_of line)
    where
      nth_shortened : (i : ℕ) (words : List (List ℕ)) → nth i (map shortened words) ≡ shortened (nth i words)
      nth_shortened i [] = sym shortened_none
      nth_shortened zero (word ∷ words) = refl
      nth_shortened (suc i) (word ∷ words) = nth_shortened i words
