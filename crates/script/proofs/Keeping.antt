-- The first 136 characters of a line stand in a buffer of so many: each growth of the line, by a store. Assumes nothing.
use Prim.Native.Nat.{ℕ, suc, ◌+◌, ◌≤◌, ◌<◌, min}
use native.Mathlib.Omega.{arith}
use native.Mathlib.Decide.{dec_le}
use native.Mathlib.Numerals.{add-one}
use mathlib.Core.Path.{◌≡◌, refl, sym, ap, ◌∙◌}
use mathlib.Core.Bool.{false, and-true}
use mathlib.Core.List.{List, [], ◌∷◌, ◌++◌, append_assoc, append-nil}
use lib.Dec.{eqb}
use lib.ListN.{length, get_or, take, set, length-append, length-take, length-set}
use lib.Seq.{take_all, take-append-le, take-suc-set, take-take, take_at, set_out, get_or-take, get_or_at}
use Rattle.script.specs.Words.{same}
use Rattle.script.specs.Holding.{Holds}
use Rattle.script.proofs.Splitting.{other_length}

-- ---- one character more

module _ (list kept : List ℕ) (n c : ℕ) (size : length kept ≡ 136) (line : take n kept ≡ take 136 list) where
  -- where it ends, as far as that is known
  pub same_end : min 136 n ≡ min 136 (length list)
  same_end = omega (arith, ap length line, length-take n kept, length-take 136 list)

  fits : n < 136 → take (min (n + 1) 136) (set kept n c) ≡ take 136 (list ++ (c ∷ []))
  fits h =
      let least : min (n + 1) 136 ≡ n + 1 = omega arith in
      let whole : take 136 list ≡ list = take_all 136 list (omega (arith, same_end)) in
      let all : take 136 (list ++ (c ∷ [])) ≡ list ++ (c ∷ []) = take_all 136 (list ++ (c ∷ [])) (omega (arith, same_end, length-append list (c ∷ []))) in
      rw (all, least, add-one, take-suc-set kept n c (omega arith), line, whole)

  full : 136 ≤ n → take (min (n + 1) 136) (set kept n c) ≡ take 136 (list ++ (c ∷ []))
  full h =
      let least : min (n + 1) 136 ≡ 136 = omega arith in
      let all : take 136 kept ≡ take n kept = take_all 136 kept (omega arith) ∙ sym (take_all n kept (omega arith)) in
      rw (least, set_out kept n c (omega arith)) (all ∙ line ∙ sym (take-append-le 136 list (c ∷ []) (omega (arith, same_end))))

  pub one_kept : take (min (n + 1) 136) (set kept n c) ≡ take 136 (list ++ (c ∷ []))
  one_kept = pick (dec_le (suc n) 136)
    where
      pick : Dec (n < 136) → take (min (n + 1) 136) (set kept n c) ≡ take 136 (list ++ (c ∷ []))
      pick (yes h) = fits h
      pick (no h) = full (omega arith)

-- no more than all are taken
pub take_least : (n : ℕ) (kept : List ℕ) → length kept ≡ 136 → take n kept ≡ take (min n 136) kept
take_least n kept size = pick (dec_le n 136)
  where
    pick : Dec (n ≤ 136) → take n kept ≡ take (min n 136) kept
    pick (yes h) = let least : min n 136 ≡ n = omega arith in rw least refl
    pick (no h) =
        let least : min n 136 ≡ 136 = omega arith in
        rw least (take_all n kept (omega arith) ∙ sym (take_all 136 kept (omega arith)))

-- ---- of the last word

module _ (front word : List ℕ) (end from : ℕ) (kept : List ℕ) (h : Holds front word end from kept) where
  -- a word that begins past what is kept
  pub word_far : (other : List ℕ) → 136 ≤ from → Holds front other end from kept
  word_far other k =
      let far : 136 ≤ length front = omega (arith, h.start) in
      record {
        count = λ j. absurd (omega arith);
        line = h.line ∙ take-append-le 136 front word far ∙ sym (take-append-le 136 front other far);
        start = h.start;
      }

  module _ (near : from < 136) where
    first_at : (x : ℕ) → word ≡ x ∷ [] → get_or kept from 0 ≡ x
    first_at x e =
        let place : length front ≡ from = omega (arith, h.start) in
        let one : end ≡ from + 1 = omega (arith, h.count near, ap length e) in
        sym (get_or-take end kept from 0 (omega arith)) ∙ rw h.line (get_or-take 136 (front ++ word) from 0 near ∙ rw e (get_or_at front x [] 0 from place))

    pub only_it : (c : ℕ) → end ≡ from + 1 → eqb (get_or kept from 0) c ≡ same word (c ∷ [])
    only_it c e = pick word refl
      where
        pick : (list : List ℕ) → word ≡ list → eqb (get_or kept from 0) c ≡ same list (c ∷ [])
        pick [] k = absurd (omega (arith, h.count near, h.start, ap length k))
        pick (x ∷ []) k = rw (first_at x k) (sym (and-true (eqb x c)))
        pick (x ∷ y ∷ rest) k = absurd (omega (arith, h.count near, h.start, ap length k))

    pub only_not : (c : ℕ) → (end ≡ from + 1 → ⊥) → same word (c ∷ []) ≡ false
    only_not c e = other_length word (c ∷ []) (λ k. e (omega (arith, h.count near, h.start)))

    front_kept : take from kept ≡ take 136 front
    front_kept =
        let place : length front ≡ from = omega (arith, h.start) in
        let first : take from kept ≡ take from (front ++ word) = sym (take-take from end kept (omega (arith, h.count near))) ∙ rw h.line (take-take from 136 (front ++ word) (omega arith)) in
        first ∙ take_at front word from place ∙ sym (take_all 136 front (omega arith))

    module _ (size : length kept ≡ 136) (c : ℕ) where
      -- one character takes the word's place
      pub word_replaced : Holds front (c ∷ []) (min (from + 1) 136) from (set kept from c)
      word_replaced =
          record {
            count = λ j. omega (arith, h.start);
            line = one_kept front kept from c size front_kept;
            start = h.start;
          }

      pub word_longer : Holds front (word ++ (c ∷ [])) (end + 1) from (set kept end c)
      word_longer =
          record {
            count = λ j. omega (arith, h.count near, length-append word (c ∷ []));
            line =
                take_least (end + 1) (set kept end c) (length-set kept end c ∙ size)
                ∙ one_kept (front ++ word) kept end c size h.line
                ∙ ap (take 136) (append_assoc front word (c ∷ []));
            start = h.start;
          }

  -- a space ends it
  pub next_word : length kept ≡ 136 → (c m : ℕ) → m ≡ min (end + 1) 136 → Holds ((front ++ word) ++ (c ∷ [])) [] m m (set kept end c)
  next_word size c m e =
      let ends = same_end (front ++ word) kept end c size h.line in
      record {
        count = λ j. omega (arith, ends, length-append (front ++ word) (c ∷ []));
        line = rw (e, append-nil ((front ++ word) ++ (c ∷ []))) (one_kept (front ++ word) kept end c size h.line);
        start = omega (arith, ends, length-append (front ++ word) (c ∷ []));
      }
