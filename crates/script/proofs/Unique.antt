-- Under one contract no function has two outcomes, the lent text with them. What `taken` leaves stands for a line, and two such states are answered alike;
-- the bytes behind those kept its contract leaves open. Assumes nothing.
use Prim.Native.Nat.{ℕ, ◌+◌, ◌-◌, ◌^◌, ◌≤◌}
use native.Mathlib.Omega.{arith}
use native.Mathlib.Decide.{dec_le}
use native.Mathlib.Nat.{pow-le-pow_right}
use mathlib.Core.Path.{◌≡◌, sym, ap, subst, ◌∙◌}
use mathlib.Core.Bool.{Bool, cond}
use mathlib.Core.List.{List, []}
use lib.Dec.{eqb}
use lib.ListN.{length, take, drop}
use Rattle.io.specs.Digits.{last_digits, IsDigitCount}
use Rattle.laws.proofs.Once.{Once, once}
use Rattle.hexline.specs.Line.{is_good, bytes_of}
use Rattle.hexline.specs.Line.{kept_of as bytes_kept}
use Rattle.hexline.specs.declared.line.Line.{Line}
use Rattle.hexline.proofs.Unique.{begin_once as hex_begin_once}
use Rattle.script.specs.Numbers.{number_of}
use Rattle.script.specs.Scan.{index_of}
use Rattle.script.specs.Words.{words_of, word_at, same, place_of, beside}
use Rattle.script.specs.Intake.{last_of, kept_of, is_bytes, Stands}
use Rattle.script.specs.Text.{Laid, Numbered, shown_of}
use Rattle.script.specs.declared.intake.Intake.{Intake}
use Rattle.script.proofs.Standing.{short_none}

-- ---- words and numbers

pub as_number_once : (word : List ℕ) → Once (number_of word)
as_number_once word = once _

pub count_once : (line : List ℕ) → Once (length (words_of line))
count_once line = once _

pub word_once : (line : List ℕ) (index : ℕ) → Once (word_at index line)
word_once line index = once _

pub is_once : (word name : List ℕ) → Once (same word name)
is_once word name = once _

-- between the two places
pub find_once : (text : List ℕ) (from to byte : ℕ) → Once (from + index_of byte (drop from (take to text)))
find_once text from to byte = once _

pub place_once : (sought names : List ℕ) → Once (place_of sought (words_of names))
place_once sought names = once _

pub beside_once : {A : Type 0} (word : List ℕ) (rows : List (List ℕ × A)) → Once (beside word rows)
beside_once word rows = once _

-- ---- the text of an answer

-- where it ends, and the text
pub put_once : (text : List ℕ) (at : ℕ) (bytes : List ℕ) (r r' : ℕ) (t t' : List ℕ) → Laid text at bytes r t → Laid text at bytes r' t' → (r ≡ r') × (t ≡ t')
put_once text at bytes r r' t t' a b = pick (dec_le (at + length bytes) (length text))
  where
    pick : Dec (at + length bytes ≤ length text) → (r ≡ r') × (t ≡ t')
    pick (yes h) = (once _ r r' (a.room h).0 (b.room h).0, once _ t t' (a.room h).1 (b.room h).1)
    pick (no h) = (once _ r r' (a.none (omega arith)).0 (b.none (omega arith)).0, once _ t t' (a.none (omega arith)).1 (b.none (omega arith)).1)

pub put_bytes_once : (text : List ℕ) (at : ℕ) (bytes : List ℕ) (r r' : ℕ) (t t' : List ℕ) → Laid text at (shown_of bytes) r t → Laid text at (shown_of bytes) r' t' → (r ≡ r') × (t ≡ t')
put_bytes_once text at bytes = put_once text at (shown_of bytes)

-- no two counts of digits are the fewest
fewest_least : (n k k' : ℕ) → IsDigitCount 10 1 n k → IsDigitCount 10 1 n k' → k ≤ k'
fewest_least n k k' f f' = pick (dec_le k k')
  where
    pick : Dec (k ≤ k') → k ≤ k'
    pick (yes h) = h
    pick (no h) =
        let more : 10 ^ k' ≤ 10 ^ (k - 1) = pow-le-pow_right (omega arith) (omega arith) in
        absurd (omega (arith, more, f'.1, f.2 (omega (arith, f'.0))))

pub put_number_once : (text : List ℕ) (at n r r' : ℕ) (t t' : List ℕ) → Numbered text at n r t → Numbered text at n r' t' → (r ≡ r') × (t ≡ t')
put_number_once text at n r r' t t' a b =
    let one : a.0 ≡ b.0 = omega (arith, fewest_least n a.0 b.0 a.1 b.1, fewest_least n b.0 a.0 b.1 a.1) in
    put_once text at (last_digits 10 b.0 n) r r' t t' (subst (λ (k : ℕ). Laid text at (last_digits 10 k n) r t) one a.2) b.2

-- ---- the state of an intake

same_intake : (r r' : Intake) → r.length ≡ r'.length → r.start ≡ r'.start → r.bytes ≡ r'.bytes → r ≡ r'
same_intake r r' e f g =
    ap (λ (n : ℕ). record { length = n; start = r.start; bytes = r.bytes }) e
    ∙ ap (λ (n : ℕ). record { length = r'.length; start = n; bytes = r.bytes }) f
    ∙ ap (λ (line : Line). record { length = r'.length; start = r'.start; bytes = line }) g

begun : (r : Intake) → Stands [] r [] [] → (r.length ≡ 0) × (r.start ≡ 0)
begun r h = let none : r.start ≡ 0 = omega (arith, short_none, h.start) in (h.count (omega arith) ∙ short_none, none)

pub begin_once : (r r' : Intake) → ((kept buffer : List ℕ) → Stands [] r kept buffer) → ((kept buffer : List ℕ) → Stands [] r' kept buffer) → r ≡ r'
unfolding words_of
begin_once r r' a b = let s = begun r (a [] []) in let s' = begun r' (b [] []) in same_intake r r' (once 0 _ _ s.0 s'.0) (once 0 _ _ s.1 s'.1) (hex_begin_once r.bytes r'.bytes (λ buffer. (a [] buffer).bytes) (λ buffer. (b [] buffer).bytes))

-- two states that stand for one line; of a state that stands for none the contracts say nothing
module _ (taken : List ℕ) (intake intake' : Intake) (kept kept' buffer buffer' : List ℕ) (h : Stands taken intake kept buffer) (h' : Stands taken intake' kept' buffer') where
  pub is_empty_once : (r r' : Bool) → ((t k b : List ℕ) → Stands t intake k b → r ≡ eqb (length t) 0) → ((t k b : List ℕ) → Stands t intake' k b → r' ≡ eqb (length t) 0) → r ≡ r'
  is_empty_once r r' a b = once _ r r' (a taken kept buffer h) (b taken kept' buffer' h')

  pub line_once : (r r' : List ℕ) → ((t b : List ℕ) → Stands t intake kept b → r ≡ kept_of t) → ((t b : List ℕ) → Stands t intake' kept' b → r' ≡ kept_of t) → r ≡ r'
  line_once r r' a b = once _ r r' (a taken buffer h) (b taken buffer' h')

  pub is_bytes_once : length (words_of taken) ≤ 8 → (r r' : Bool) → ((t b : List ℕ) → Stands t intake kept b → length (words_of t) ≤ 8 → r ≡ is_bytes (last_of (words_of t))) → ((t b : List ℕ) → Stands t intake' kept' b → length (words_of t) ≤ 8 → r' ≡ is_bytes (last_of (words_of t))) → r ≡ r'
  is_bytes_once few r r' a b = once _ r r' (a taken buffer h few) (b taken buffer' h' few)

  pub bytes_once : length buffer ≡ length buffer' → (r r' : List ℕ) → ((t k : List ℕ) → Stands t intake k buffer → r ≡ cond (is_good (last_of (words_of t))) (bytes_kept buffer (last_of (words_of t))) []) → ((t k : List ℕ) → Stands t intake' k buffer' → r' ≡ cond (is_good (last_of (words_of t))) (bytes_kept buffer' (last_of (words_of t))) []) → r ≡ r'
  bytes_once e r r' a b = a taken kept h ∙ ap (λ (n : ℕ). cond (is_good (last_of (words_of taken))) (take n (bytes_of (last_of (words_of taken)))) []) e ∙ sym (b taken kept' h')

-- a state that stands for no line
pub intake_open : (taken : List ℕ) (intake : Intake) (kept buffer : List ℕ) → intake.start ≡ 137 → Stands taken intake kept buffer → ⊥
intake_open taken intake kept buffer e h = omega (arith, e, h.start)
