-- Bytes laid into a text where there is room, or not. Assumes nothing.
use Prim.Native.Nat.{ℕ, ◌+◌, ◌-◌, ◌≤◌, ◌<◌}
use native.Mathlib.Omega.{arith}
use native.Mathlib.Decide.{dec_le}
use mathlib.Core.Path.{◌≡◌, refl, sym, ap, ◌∙◌}
use mathlib.Core.Bool.{Bool, true, false, not}
use mathlib.Core.List.{List, [], ◌∷◌, ◌++◌, append-nil}
use lib.ListN.{length, take, drop, drop_of_length-le, length-drop}
use lib.Seq.{drop-drop, length-take-le}
use lib.Dec.{leb, eqb}
use borrow.Author.Tests.{leb-true, le-leb, lt-leb, not-false}
use Rattle.hexline.specs.Digits.{spelt_of}
use Rattle.script.specs.Text.{Laid, shown_of}

-- what the test of the room says
module _ (size at n : ℕ) (answer : Bool) (tested : answer ≡ leb (at + n) size) where
  pub fits : not answer ≡ false → at + n ≤ size
  fits e = leb-true (at + n) size (sym tested ∙ not-false answer e)

pub room_left : (size at n : ℕ) → at ≤ size → leb n (size - at) ≡ leb (at + n) size
room_left size at n h = pick (dec_le n (size - at))
  where
    pick : Dec (n ≤ size - at) → leb n (size - at) ≡ leb (at + n) size
    pick (yes k) = le-leb n (size - at) k ∙ sym (le-leb (at + n) size (omega arith))
    pick (no k) = lt-leb n (size - at) (omega arith) ∙ sym (lt-leb (at + n) size (omega arith))

module _ (text : List ℕ) (at : ℕ) (bytes : List ℕ) where
  pub no_room : length text < at + length bytes → Laid text at bytes at text
  no_room h = record { room = λ k. absurd (omega arith); none = λ k. (refl, refl) }

  pub laid : (end : ℕ) (after : List ℕ) → at + length bytes ≤ length text → end ≡ at + length bytes → after ≡ take at text ++ (bytes ++ drop (at + length bytes) text) → Laid text at bytes end after
  laid end after h e f = record { room = λ k. (e, f); none = λ k. absurd (omega arith) }

-- a part of n bytes
pub part_length : (text : List ℕ) (at n : ℕ) → at + n ≤ length text → length (take (at + n - at) (drop at text)) ≡ n
part_length text at n h =
    let size : at + n - at ≡ n = omega arith in
    rw size (length-take-le n (drop at text) (rw (length-drop at text) (omega arith)))

-- the part from `at` to `end` was lent, and came back as the bytes
pub came_back : (text bytes back : List ℕ) (at end : ℕ) → at + length bytes ≤ length text → end ≡ at + length bytes → back ≡ bytes → Laid text at bytes end (take at text ++ (back ++ drop (end - at) (drop at text)))
came_back text bytes back at end h e f =
    let n : end - at ≡ length bytes = omega arith in
    laid text at bytes end (take at text ++ (back ++ drop (end - at) (drop at text))) h e
    (rw (f, n) (ap (λ (rest : List ℕ). take at text ++ (bytes ++ rest)) (drop-drop (length bytes) at text)))

-- digits laid over a part that is as long
pub whole : (digits part : List ℕ) (n : ℕ) → length part ≤ n → digits ++ drop n part ≡ digits
whole digits part n h = rw (drop_of_length-le part h) (append-nil digits)

pub shown_none : (bytes : List ℕ) → eqb (length bytes) 0 ≡ true → 45 ∷ [] ≡ shown_of bytes
unfolding shown_of
shown_none bytes e = rw e

pub shown_some : (bytes : List ℕ) → eqb (length bytes) 0 ≡ false → spelt_of bytes ≡ shown_of bytes
unfolding shown_of
shown_some bytes e = rw e
