-- What a state of the intake says, by what stands in front of the last word and what is kept of that word, and how it grows. Assumes nothing.
use Prim.Native.Nat.{ℕ, zero, suc, ◌+◌, ◌≤◌, ◌<◌, min}
use native.Mathlib.Omega.{arith}
use mathlib.Core.Path.{◌≡◌, refl, sym, ap, ◌∙◌}
use mathlib.Core.Bool.{Bool, true, false, ◌&&◌, ◌||◌, and-false}
use mathlib.Core.List.{List, [], ◌∷◌, ◌++◌, append-nil}
use lib.Dec.{eqb, ltb}
use lib.ListN.{length, take, set, length-append, length-take}
use borrow.Author.Tests.{eq-eqb, ne_eqb, lt-ltb, le-ltb}
use Rattle.hexline.specs.Line.{is_good}
use Rattle.hexline.specs.Line.{Stands as HexStands}
use Rattle.hexline.specs.declared.line.Line.{Line}
use Rattle.script.specs.Numbers.{is_decimal}
use Rattle.script.specs.Words.{words_of, same}
use Rattle.script.specs.Intake.{shortened, short_of, kept_of, is_bytes, Stands}
use Rattle.script.specs.Holding.{Holds, unspaced}
use Rattle.script.specs.declared.intake.Intake.{Intake}
use Rattle.script.proofs.Shortening.{zero_replaced, one_appended, none_appended, shortened_some, shortened_none}
use Rattle.script.proofs.Kept.{name_kept}
use Rattle.script.proofs.Keeping.{word_replaced, word_longer, next_word}
use Rattle.script.proofs.Appending.{front_of, word_of, short_parts, front_longer, front_ended, word_ended, short_some, last_near}
use Rattle.script.proofs.Appending.{word_longer as last_longer}

-- ---- one character of a word

module _ (front word : List ℕ) (end from : ℕ) (kept : List ℕ) (c : ℕ) (h : Holds front (shortened word) end from kept) (near : from < 136)
    (only decimal : Bool) (tested : only ≡ (ltb from 136 && same (shortened word) (48 ∷ []))) (told : decimal ≡ is_decimal c) where
  -- the test is whether a zero is replaced
  test : (only && decimal) ≡ (same (shortened word) (48 ∷ []) && is_decimal c)
  test = rw (tested, told, lt-ltb from 136 near)

  pub digit_said : (only && decimal) ≡ true → length kept ≡ 136 → (m : ℕ) (after : List ℕ) → (m ≡ min (from + 1) (length kept)) × (after ≡ set kept from c)
      → Holds front (shortened (word ++ (c ∷ []))) m from after
  digit_said e size m after k =
      rw (zero_replaced word c (sym test ∙ e), k.0, k.1, size) (word_replaced front (shortened word) end from kept h near size c)

  pub nothing_said : (only && decimal) ≡ false → from + 16 ≤ end → Holds front (shortened (word ++ (c ∷ []))) end from kept
  nothing_said e k = rw (none_appended word c (sym test ∙ e) (omega (arith, h.count near, h.start))) h

  pub character_said : (only && decimal) ≡ false → end < from + 16 → length kept ≡ 136 → (after : List ℕ) → after ≡ set kept end c
      → Holds front (shortened (word ++ (c ∷ []))) (end + 1) from after
  character_said e k size after j =
      rw (one_appended word c (sym test ∙ e) (omega (arith, h.count near, h.start)), j) (word_longer front (shortened word) end from kept h near size c)

-- ---- a state

module _ (line : List ℕ) (intake : Intake) (kept buffer : List ℕ) where
  parts_length : length (short_of line) ≡ length (front_of line) + length (shortened (word_of line))
  parts_length = ap length (short_parts line) ∙ length-append (front_of line) (shortened (word_of line))

  pub holds : Stands line intake kept buffer → Holds (front_of line) (shortened (word_of line)) intake.length intake.start kept
  unfolding kept_of
  holds h =
      record {
        count = λ near. h.count near ∙ parts_length;
        line = h.line ∙ ap (take 136) (short_parts line);
        start = omega (arith, h.start, parts_length);
      }

  pub stands : Holds (front_of line) (shortened (word_of line)) intake.length intake.start kept → HexStands (word_of line) intake.bytes buffer → Stands line intake kept buffer
  unfolding kept_of
  stands h b =
      record {
        count = λ near. h.count near ∙ sym parts_length;
        line = h.line ∙ sym (ap (take 136) (short_parts line));
        start = omega (arith, h.start, parts_length);
        bytes = b;
      }

module _ (line : List ℕ) (intake : Intake) (kept buffer : List ℕ) (h : Stands line intake kept buffer) where
  -- the last word goes on, and a space ends it
  pub run_parted : (run : List ℕ) → unspaced run ≡ true → (next : Intake) (after : List ℕ) → HexStands [] next.bytes buffer
      → Holds ((front_of line ++ shortened (word_of line ++ run)) ++ (32 ∷ [])) [] next.length next.start after → Stands ((line ++ run) ++ (32 ∷ [])) next after buffer
  run_parted run u next after b k =
      stands ((line ++ run) ++ (32 ∷ [])) next after buffer
      (rw (front_ended (line ++ run), word_ended (line ++ run), shortened_none, front_longer line run u, last_longer line run u) k)
      (rw (word_ended (line ++ run)) b)

  -- the same where it does not go on
  pub word_parted : length kept ≡ 136 → (m : ℕ) (bytes : Line) (after : List ℕ) → (m ≡ min (intake.length + 1) (length kept)) × (after ≡ set kept intake.length 32)
      → HexStands [] bytes buffer → Stands (line ++ (32 ∷ [])) record { length = m; start = m; bytes = bytes } after buffer
  word_parted size m bytes after k b =
      rw (append-nil line) at
      (run_parted [] refl record { length = m; start = m; bytes = bytes } after b
      (rw (append-nil (word_of line), k.1) (next_word (front_of line) (shortened (word_of line)) intake.length intake.start kept (holds line intake kept buffer h) size 32 m (rw size at k.0))))

  -- the last word goes on
  pub word_said : (run : List ℕ) → unspaced run ≡ true → (m : ℕ) (bytes : Line) (after buffer_after : List ℕ)
      → Holds (front_of line) (shortened (word_of line ++ run)) m intake.start after → HexStands (word_of line ++ run) bytes buffer_after
      → Stands (line ++ run) record { length = m; start = intake.start; bytes = bytes } after buffer_after
  word_said run u m bytes after buffer_after k b =
      stands (line ++ run) record { length = m; start = intake.start; bytes = bytes } after buffer_after (rw (front_longer line run u, last_longer line run u) k) (rw (last_longer line run u) b)

-- ---- what is asked of it

pub short_none : length (short_of []) ≡ 0
unfolding words_of
short_none = ap length shortened_none

pub nothing_taken : (line : List ℕ) (intake : Intake) (kept buffer : List ℕ) → Stands line intake kept buffer → eqb intake.length 0 ≡ eqb (length line) 0
unfolding kept_of
nothing_taken [] intake kept buffer h = eq-eqb intake.length 0 (h.count (omega (arith, short_none, h.start)) ∙ short_none)
nothing_taken (c ∷ line) intake kept buffer h =
    let size : min intake.length (length kept) ≡ min 136 (length (short_of (c ∷ line))) = sym (length-take intake.length kept) ∙ ap length h.line ∙ length-take 136 (short_of (c ∷ line)) in
    ne_eqb intake.length 0 (λ e. omega (arith, size, short_some c line)) ∙ sym (ne_eqb (length (c ∷ line)) 0 (λ e. omega arith))

module _ (word : List ℕ) where
  -- bytes by their digits
  bytes_good : is_good word ≡ true → is_bytes word ≡ ltb 0 (length (shortened word))
  unfolding is_bytes
  bytes_good e = pick word e
    where
      pick : (list : List ℕ) → is_good list ≡ true → ((ltb 0 (length list) && is_good list) || same list (45 ∷ [])) ≡ ltb 0 (length (shortened list))
      pick [] k = rw shortened_none
      pick (c ∷ list) k = rw (k, lt-ltb 0 (length (shortened (c ∷ list))) (shortened_some c list), lt-ltb 0 (length (c ∷ list)) (omega arith))

  -- or none
  bytes_other : is_good word ≡ false → is_bytes word ≡ same (shortened word) (45 ∷ [])
  unfolding is_bytes is_decimal
  bytes_other e = rw (e, and-false (ltb 0 (length word))) (sym (name_kept 45 [] (omega arith) refl word))

module _ (line : List ℕ) (intake : Intake) (kept buffer : List ℕ) (h : Stands line intake kept buffer) (few : length (words_of line) ≤ 8) where
  near : intake.start < 136
  near = omega (arith, (holds line intake kept buffer h).start, last_near line few)

  word_length : intake.length ≡ intake.start + length (shortened (word_of line))
  word_length = omega (arith, near, (holds line intake kept buffer h).start, (holds line intake kept buffer h).count near)

  pub good_bytes : is_good (word_of line) ≡ true → ltb intake.start intake.length ≡ is_bytes (word_of line)
  good_bytes e = pick (length (shortened (word_of line))) refl ∙ sym (bytes_good (word_of line) e)
    where
      pick : (n : ℕ) → length (shortened (word_of line)) ≡ n → ltb intake.start intake.length ≡ ltb 0 n
      pick zero k = le-ltb intake.start intake.length (omega (arith, word_length))
      pick (suc n) k = lt-ltb intake.start intake.length (omega (arith, word_length)) ∙ sym (lt-ltb 0 (suc n) (omega arith))

  pub other_bytes : (only : Bool) → is_good (word_of line) ≡ false → only ≡ (ltb intake.start 136 && same (shortened (word_of line)) (45 ∷ [])) → only ≡ is_bytes (word_of line)
  other_bytes only e k = k ∙ rw (lt-ltb intake.start 136 near) (sym (bytes_other (word_of line) e))
