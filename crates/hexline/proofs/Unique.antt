-- Under one contract no function has two outcomes, the lent text with them. What `read` leaves stands for a text, and two such states are answered alike;
-- the bytes behind those kept, and which state stands for a line that is not good, its contract leaves open. Assumes nothing.
use Prim.Native.Nat.{ℕ, zero, suc, ◌+◌, ◌*◌, ◌%◌, ◌<◌, min}
use native.Mathlib.Omega.{arith}
use mathlib.Core.Path.{◌≡◌, refl, sym, ap, ◌∙◌}
use mathlib.Core.Bool.{Bool, true, cond, and-false, true≢false}
use mathlib.Core.List.{List, [], ◌∷◌, ◌++◌}
use lib.Dec.{eqb, ltb}
use lib.ListN.{length, take, drop, set, replicate, length-append, length-replicate}
use lib.Seq.{take_all, take-append_seam}
use Rattle.laws.specs.Lists.{all}
use Rattle.laws.proofs.Once.{Once, once}
use Rattle.hexline.specs.Digits.{is_digit, spelt_of}
use Rattle.hexline.specs.Line.{is_good, bytes_of, kept_of, Paired, Stands}
use Rattle.hexline.specs.declared.line.Line.{Line}
use Rattle.hexline.specs.declared.line.Line.TheVariants.{Pairs, Half, Bad}
use Rattle.hexline.proofs.Lines.{other_not_good}
use Rattle.hexline.proofs.Spelt.{spelt_good, spelt_back}

pub front_once : (bytes : List ℕ) (n : ℕ) → Once (take n bytes)
front_once bytes n = once _

-- how many, and the text
pub spell_once : (bytes text : List ℕ) (r r' : ℕ) (t t' : List ℕ) → (r ≡ 2 * length bytes) × (t ≡ spelt_of bytes ++ drop r text) → (r' ≡ 2 * length bytes) × (t' ≡ spelt_of bytes ++ drop r' text) → (r ≡ r') × (t ≡ t')
spell_once bytes text r r' t t' a b = let same = once _ r r' a.0 b.0 in (same, a.1 ∙ ap (λ (n : ℕ). spelt_of bytes ++ drop n text) same ∙ sym b.1)

-- where those kept end, and the buffer
pub keep_once : (buffer : List ℕ) (n byte r r' : ℕ) (b b' : List ℕ) → (r ≡ min (n + 1) (length buffer)) × (b ≡ set buffer n byte) → (r' ≡ min (n + 1) (length buffer)) × (b' ≡ set buffer n byte) → (r ≡ r') × (b ≡ b')
keep_once buffer n byte r r' b b' k k' = (once _ r r' k.0 k'.0, once _ b b' k.1 k'.1)

-- ---- the state of a reader

begun : (line : Line) → ((buffer : List ℕ) → Stands [] line buffer) → line ≡ Pairs 0
unfolding is_good bytes_of
begun (Pairs n) h = ap Pairs (h []).count
begun (Half n c) h = absurd (omega (arith, ap length (h []).1, length-append (h []).0 (c ∷ [])))
begun Bad h = absurd (true≢false (h [] []))

pub begin_once : (r r' : Line) → ((buffer : List ℕ) → Stands [] r buffer) → ((buffer : List ℕ) → Stands [] r' buffer) → r ≡ r'
begin_once r r' a b = once (Pairs 0) r r' (begun r a) (begun r' b)

-- two states that stand for one text
module _ (taken : List ℕ) (line line' : Line) (buffer buffer' : List ℕ) (h : Stands taken line buffer) (h' : Stands taken line' buffer') where
  pub is_good_alike : (r r' : Bool) → ((t b : List ℕ) → Stands t line b → r ≡ is_good t) → ((t b : List ℕ) → Stands t line' b → r' ≡ is_good t) → r ≡ r'
  is_good_alike r r' a b = once _ r r' (a taken buffer h) (b taken buffer' h')

  pub is_empty_alike : 0 < length buffer → 0 < length buffer' → (r r' : Bool) → ((t b : List ℕ) → Stands t line b → 0 < length b → r ≡ eqb (length t) 0) → ((t b : List ℕ) → Stands t line' b → 0 < length b → r' ≡ eqb (length t) 0) → r ≡ r'
  is_empty_alike k k' r r' a b = once _ r r' (a taken buffer h k) (b taken buffer' h' k')

  pub kept_alike : length buffer ≡ length buffer' → (r r' : List ℕ) → ((t : List ℕ) → Stands t line buffer → r ≡ cond (is_good t) (kept_of buffer t) []) → ((t : List ℕ) → Stands t line' buffer' → r' ≡ cond (is_good t) (kept_of buffer' t) []) → r ≡ r'
  kept_alike e r r' a b = a taken h ∙ ap (λ (n : ℕ). cond (is_good taken) (take n (bytes_of taken)) []) e ∙ sym (b taken h')

-- ---- each state stands for a text

abbrev zeros : ℕ → List ℕ
zeros n = replicate n 0

zeros_bytes : (n : ℕ) → all (λ b. ltb b 256) (zeros n) ≡ true
zeros_bytes zero = refl
zeros_bytes (suc n) = zeros_bytes n

-- n zero bytes, with room for one more
abbrev roomy : ℕ → List ℕ
roomy n = zeros n ++ (0 ∷ [])

room_left : (n : ℕ) → length (roomy n) ≡ n + 1
room_left n = let last : List ℕ = 0 ∷ [] in length-append (zeros n) last ∙ ap (◌+ 1) (length-replicate n 0)

zeros_paired : (n : ℕ) → Paired (spelt_of (zeros n)) n (roomy n)
zeros_paired n =
    let size : length (zeros n) ≡ n = length-replicate n 0 in
    let last : List ℕ = 0 ∷ [] in
    let whole : kept_of (roomy n) (spelt_of (zeros n)) ≡ zeros n = rw (spelt_back (zeros n) (zeros_bytes n)) (take_all (length (roomy n)) (zeros n) (omega (arith, room_left n, size))) in
    record {
      good = spelt_good (zeros n) (zeros_bytes n);
      count = sym (ap length whole ∙ size);
      bytes = ap (λ (k : ℕ). take k (roomy n)) (sym size) ∙ take-append_seam (zeros n) last ∙ sym whole;
    }

standing : (line : Line) → (taken : List ℕ) × (buffer : List ℕ) × (0 < length buffer) × Stands taken line buffer
unfolding is_digit
standing (Pairs n) = (spelt_of (zeros n), roomy n, omega (arith, room_left n), zeros_paired n)
standing (Half n c) = (spelt_of (zeros n) ++ (c ∷ []), roomy n, omega (arith, room_left n), (spelt_of (zeros n), refl, zeros_paired n))
standing Bad = (103 ∷ 103 ∷ [], 0 ∷ [], omega arith, λ more. other_not_good [] more 103 103 refl)

pub is_good_once : (line : Line) (r r' : Bool) → ((t b : List ℕ) → Stands t line b → r ≡ is_good t) → ((t b : List ℕ) → Stands t line b → r' ≡ is_good t) → r ≡ r'
is_good_once line = let s = standing line in is_good_alike s.0 line line s.1 s.1 s.3 s.3

pub is_empty_once : (line : Line) (r r' : Bool) → ((t b : List ℕ) → Stands t line b → 0 < length b → r ≡ eqb (length t) 0) → ((t b : List ℕ) → Stands t line b → 0 < length b → r' ≡ eqb (length t) 0) → r ≡ r'
is_empty_once line = let s = standing line in is_empty_alike s.0 line line s.1 s.1 s.3 s.3 s.2 s.2

-- of a state that stands for a text
pub kept_once : (taken : List ℕ) (line : Line) (buffer : List ℕ) → Stands taken line buffer → (r r' : List ℕ) → ((t : List ℕ) → Stands t line buffer → r ≡ cond (is_good t) (kept_of buffer t) []) → ((t : List ℕ) → Stands t line buffer → r' ≡ cond (is_good t) (kept_of buffer t) []) → r ≡ r'
kept_once taken line buffer h = kept_alike taken line line buffer buffer h h refl

-- ---- what the contracts leave open

-- the bytes behind those kept: whatever they are, the state stands for the text
pub bytes_open : (buffer : List ℕ) → Stands [] (Pairs 0) buffer
unfolding is_good bytes_of
bytes_open [] = record { good = refl; count = refl; bytes = refl }
bytes_open (b ∷ buffer) = record { good = refl; count = refl; bytes = refl }

-- which state stands for a line that is not good
pub state_open : Stands (103 ∷ []) (Half 0 103) [] × Stands (103 ∷ []) Bad []
unfolding is_good is_digit
state_open = (([], refl, bytes_open []), λ more. and-false (eqb (length (103 ∷ more) % 2) 0))

-- a state that stands for no text
pub kept_open : (taken : List ℕ) → Stands taken (Pairs 1) [] → ⊥
kept_open taken h = omega (arith, h.count)
