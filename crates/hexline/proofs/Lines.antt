-- A line grows by a character: what the reader's state says of it then. Assumes nothing.
use Prim.Native.Nat.{ℕ, suc, ◌+◌, ◌%◌, ◌≤◌, ◌<◌, min}
use native.Mathlib.Omega.{arith}
use native.Mathlib.Decide.{dec_le}
use native.Mathlib.Numerals.{add-one}
use mathlib.Core.Path.{◌≡◌, refl, sym, ap, ◌∙◌}
use mathlib.Core.Bool.{Bool, true, false, ◌&&◌, and-false, true≢false}
use mathlib.Core.List.{List, [], ◌∷◌, ◌++◌, append_assoc, append-nil}
use lib.Dec.{eqb}
use lib.ListN.{length, get_or, take, set, length-append, length-take, length-set}
use lib.Seq.{take_all, take-append-le, take-suc, take-suc-set, take-set-le}
use borrow.Author.Tests.{eq-eqb, eqb-true, ne_eqb}
use Rattle.laws.specs.Lists.{all}
use Rattle.laws.proofs.Bools.{both}
use Rattle.laws.proofs.Lists.{all_append}
use Rattle.hexline.specs.Digits.{is_digit, byte_of}
use Rattle.hexline.specs.Line.{is_good, bytes_of, kept_of, Paired, Stands}
use Rattle.hexline.specs.declared.line.Line.{Line}
use Rattle.hexline.specs.declared.line.Line.TheVariants.{Pairs, Half, Bad}

-- ---- what is good

pub even : (line : List ℕ) → is_good line ≡ true → length line % 2 ≡ 0
unfolding is_good
even line e = eqb-true (length line % 2) 0 (both (eqb (length line % 2) 0) (all is_digit line) e).0

digits : (line : List ℕ) → is_good line ≡ true → all is_digit line ≡ true
unfolding is_good
digits line e = (both (eqb (length line % 2) 0) (all is_digit line) e).1

-- an odd number of characters
pub odd_not_good : (line : List ℕ) → length line % 2 ≡ 1 → is_good line ≡ false
unfolding is_good
odd_not_good line e = rw (ne_eqb (length line % 2) 0 (λ h. omega arith))

pub half_not_good : (pairs : List ℕ) (c : ℕ) → is_good pairs ≡ true → is_good (pairs ++ (c ∷ [])) ≡ false
half_not_good pairs c e =
    odd_not_good (pairs ++ (c ∷ [])) (rw (length-append pairs (c ∷ [])) (omega (arith, even pairs e)))

-- a character that is no digit stands in the line
pub other_not_good : (pairs more : List ℕ) (high low : ℕ) → (is_digit high && is_digit low) ≡ false → is_good (pairs ++ (high ∷ low ∷ more)) ≡ false
unfolding is_good
other_not_good pairs more high low e =
    let line = pairs ++ (high ∷ low ∷ more) in
    let rest : (is_digit high && (is_digit low && all is_digit more)) ≡ false = pick (is_digit high) (is_digit low) e in
    let none : all is_digit line ≡ false = all_append is_digit pairs (high ∷ low ∷ more) ∙ rw rest (and-false (all is_digit pairs)) in
    rw none (and-false (eqb (length line % 2) 0))
  where
    pick : (s t : Bool) → (s && t) ≡ false → (s && (t && all is_digit more)) ≡ false
    pick true true k = absurd (true≢false k)
    pick true false k = refl
    pick false t k = refl

module _ (pairs : List ℕ) (high low : ℕ) (e : is_good pairs ≡ true) where
  pub pair_good : (is_digit high && is_digit low) ≡ true → is_good (pairs ++ (high ∷ low ∷ [])) ≡ true
  unfolding is_good
  pair_good d =
      let p = both (is_digit high) (is_digit low) d in
      let n : length (pairs ++ (high ∷ low ∷ [])) % 2 ≡ 0 = rw (length-append pairs (high ∷ low ∷ [])) (omega (arith, even pairs e)) in
      rw (eq-eqb _ _ n, all_append is_digit pairs (high ∷ low ∷ []), digits pairs e, p.0, p.1)

-- ---- the bytes

more_bytes : (pairs : List ℕ) (high low : ℕ) → length pairs % 2 ≡ 0 → bytes_of (pairs ++ (high ∷ low ∷ [])) ≡ bytes_of pairs ++ (byte_of high low ∷ [])
unfolding bytes_of
more_bytes [] high low e = refl
more_bytes (x ∷ []) high low e = absurd (omega arith)
more_bytes (x ∷ y ∷ rest) high low e = ap (byte_of x y ∷◌) (more_bytes rest high low (omega arith))

-- a list of which a buffer keeps what it has room for grows by one
module _ (list buffer : List ℕ) (b n : ℕ) (count : n ≡ length (take (length buffer) list)) (same : take n buffer ≡ take (length buffer) list) where
  -- the count and the bytes kept of it then
  Kept : Type 0
  Kept = (min (n + 1) (length buffer) ≡ length (take (length buffer) (list ++ (b ∷ []))))
      × (take (min (n + 1) (length buffer)) (set buffer n b) ≡ take (length buffer) (list ++ (b ∷ [])))

  fits : length list < length buffer → Kept
  unfolding Kept
  fits h =
      let whole : take (length buffer) list ≡ list = take_all (length buffer) list (omega arith) in
      let k : n ≡ length list = count ∙ ap length whole in
      let more : length (list ++ (b ∷ [])) ≡ length list + 1 = length-append list (b ∷ []) in
      let all : take (length buffer) (list ++ (b ∷ [])) ≡ list ++ (b ∷ []) = take_all (length buffer) (list ++ (b ∷ [])) (omega arith) in
      let least : min (n + 1) (length buffer) ≡ n + 1 = omega arith in
      (rw (all, least) (omega arith), rw (all, least, add-one, take-suc-set buffer n b (omega arith), same, whole))

  full : length buffer ≤ length list → Kept
  unfolding Kept
  full h =
      let k : n ≡ length buffer = omega (arith, length-take (length buffer) list) in
      let least : min (n + 1) (length buffer) ≡ length buffer = omega arith in
      let same_kept : take (length buffer) (list ++ (b ∷ [])) ≡ take (length buffer) list = take-append-le (length buffer) list (b ∷ []) h in
      let unmoved : take (length buffer) (set buffer n b) ≡ take (length buffer) buffer = take-set-le (length buffer) buffer n b (omega arith) in
      (rw (same_kept, least) (omega arith), rw (same_kept, least, unmoved) (rw k at same))

  grown : Kept
  grown = pick (dec_le (suc (length list)) (length buffer))
    where
      pick : Dec (length list < length buffer) → Kept
      pick (yes h) = fits h
      pick (no h) = full (omega arith)

-- ---- the state

module _ (pairs : List ℕ) (n : ℕ) (buffer : List ℕ) (p : Paired pairs n buffer) where
  pub paired_more : (high low : ℕ) → (is_digit high && is_digit low) ≡ true
      → Paired ((pairs ++ (high ∷ [])) ++ (low ∷ [])) (min (n + 1) (length buffer)) (set buffer n (byte_of high low))
  unfolding Kept
  paired_more high low d =
      let b = byte_of high low in
      let k : Kept (bytes_of pairs) buffer b n p.count p.bytes = grown (bytes_of pairs) buffer b n p.count p.bytes in
      rw (append_assoc pairs (high ∷ []) (low ∷ []))
      record {
        good = pair_good pairs high low p.good d;
        count = rw (length-set buffer n b, more_bytes pairs high low (even pairs p.good)) k.0;
        bytes = rw (length-set buffer n b, more_bytes pairs high low (even pairs p.good)) k.1;
      }

  -- no byte is kept exactly where no character was taken
  pub paired_empty : 0 < length buffer → eqb n 0 ≡ eqb (length pairs) 0
  unfolding bytes_of
  paired_empty h = pick pairs p.good p.count
    where
      pick : (line : List ℕ) → is_good line ≡ true → n ≡ length (kept_of buffer line) → eqb n 0 ≡ eqb (length line) 0
      pick [] e k = eq-eqb n 0 (omega (arith, k, length-take (length buffer) (bytes_of [])))
      pick (x ∷ []) e k = absurd (omega (arith, even (x ∷ []) e))
      pick (x ∷ y ∷ rest) e k =
          ne_eqb n 0 (λ z. omega (arith, k, length-take (length buffer) (bytes_of (x ∷ y ∷ rest))))
          ∙ sym (ne_eqb (length (x ∷ y ∷ rest)) 0 (λ z. omega arith))

-- where one character more was taken, or one that is no digit, the line is not empty
pub half_not_empty : (pairs : List ℕ) (c : ℕ) → eqb (length (pairs ++ (c ∷ []))) 0 ≡ false
half_not_empty pairs c = ne_eqb (length (pairs ++ (c ∷ []))) 0 (λ e. omega (arith, length-append pairs (c ∷ [])))

pub bad_not_good : (taken : List ℕ) → ((more : List ℕ) → is_good (taken ++ more) ≡ false) → is_good taken ≡ false
bad_not_good taken h = sym (ap is_good (append-nil taken)) ∙ h []

pub bad_not_empty : (taken : List ℕ) → ((more : List ℕ) → is_good (taken ++ more) ≡ false) → eqb (length taken) 0 ≡ false
unfolding is_good
bad_not_empty [] h = absurd (true≢false (h []))
bad_not_empty (x ∷ taken) h = ne_eqb (length (x ∷ taken)) 0 (λ e. omega arith)

-- a state that is no pairs stands for a line that is neither good nor empty
module _ (taken buffer : List ℕ) where
  pub others_not_good : (line : Line) → ((n : ℕ) → line ≡ Pairs n → ⊥) → Stands taken line buffer → is_good taken ≡ false
  others_not_good (Pairs n) other h = absurd (other n refl)
  others_not_good (Half n c) other h = ap is_good h.1 ∙ half_not_good h.0 c h.2.good
  others_not_good Bad other h = bad_not_good taken h

  pub others_not_empty : (line : Line) → ((n : ℕ) → line ≡ Pairs n → ⊥) → Stands taken line buffer → eqb (length taken) 0 ≡ false
  others_not_empty (Pairs n) other h = absurd (other n refl)
  others_not_empty (Half n c) other h = ap (λ (l : List ℕ). eqb (length l) 0) h.1 ∙ half_not_empty h.0 c
  others_not_empty Bad other h = bad_not_empty taken h

-- ---- one character more

module _ (taken : List ℕ) (c : ℕ) where
  module _ (high n : ℕ) (buffer : List ℕ) (p : Stands taken (Half n high) buffer) where
    pub half_other : (is_digit high && is_digit c) ≡ false → (more : List ℕ) → is_good ((taken ++ (c ∷ [])) ++ more) ≡ false
    half_other d more =
        ap is_good (append_assoc taken (c ∷ []) more ∙ rw p.1 (append_assoc p.0 (high ∷ []) (c ∷ more))) ∙ other_not_good p.0 more high c d

    pub half_byte : (m byte : ℕ) (after : List ℕ) → ((is_digit high && is_digit c) ≡ true) × (byte ≡ byte_of high c)
        → (m ≡ min (n + 1) (length buffer)) × (after ≡ set buffer n byte) → Paired (taken ++ (c ∷ [])) m after
    half_byte m byte after j k =
        rw (p.1, k.0, k.1, j.1) (paired_more p.0 n buffer p.2 high c j.0)

-- a loop that has taken i characters of a part takes one more
module _ (taken part : List ℕ) (i : ℕ) where
  pub one_more : i < length part → (taken ++ take i part) ++ (get_or part i 0 ∷ []) ≡ taken ++ take (i + 1) part
  one_more h = rw (add-one, take-suc part i 0 h) (append_assoc taken (take i part) (get_or part i 0 ∷ []))

  pub whole_part : length part ≤ i → taken ++ take i part ≡ taken ++ part
  whole_part h = ap (taken ++◌) (take_all i part h)
