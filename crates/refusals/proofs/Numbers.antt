-- No two refusals have one number, and none has 0, which is done. Assumes nothing.
use Prim.Native.Nat.{ℕ, ◌-◌, ◌<◌}
use native.Mathlib.Omega.{arith}
use mathlib.Core.Path.{◌≡◌, refl, sym, ap, ◌∙◌}
use mathlib.Core.List.{List, [], ◌∷◌}
use lib.ListN.{get_or}
use Rattle.refusals.specs.declared.Refusal.{Refusal}
use Rattle.refusals.specs.declared.Refusal.TheVariants.{NotSound, MemoryNotM, ReplyTooShort, NoSuchRecord, RecordInUse, OutOfRange, ServedElsewhere, RecordOff, NoSuchBuffer, NotUsedYet, NothingArmed, Misplaced, SharesByte, NoSuchAddress, MemoryTooLarge, NoSuchFrame}
use Rattle.refusals.specs.Refusals.{number}

pub number_positive : (r : Refusal) → 0 < number r
number_positive NotSound = omega arith
number_positive MemoryNotM = omega arith
number_positive ReplyTooShort = omega arith
number_positive NoSuchRecord = omega arith
number_positive RecordInUse = omega arith
number_positive OutOfRange = omega arith
number_positive ServedElsewhere = omega arith
number_positive RecordOff = omega arith
number_positive NoSuchBuffer = omega arith
number_positive NotUsedYet = omega arith
number_positive NothingArmed = omega arith
number_positive Misplaced = omega arith
number_positive SharesByte = omega arith
number_positive NoSuchAddress = omega arith
number_positive MemoryTooLarge = omega arith
number_positive NoSuchFrame = omega arith

-- the refusals in the order of their numbers; there is none of 0
abbrev in_order : List Refusal
in_order = NotSound ∷ MemoryNotM ∷ ReplyTooShort ∷ NoSuchRecord ∷ RecordInUse ∷ OutOfRange ∷ ServedElsewhere ∷ RecordOff ∷ NoSuchBuffer ∷ NotUsedYet ∷ NothingArmed ∷ Misplaced ∷ SharesByte ∷ NoSuchAddress ∷ MemoryTooLarge ∷ NoSuchFrame ∷ []

abbrev of_number : ℕ → Refusal
of_number n = get_or in_order (n - 1) NotSound

back : (r : Refusal) → of_number (number r) ≡ r
back NotSound = refl
back MemoryNotM = refl
back ReplyTooShort = refl
back NoSuchRecord = refl
back RecordInUse = refl
back OutOfRange = refl
back ServedElsewhere = refl
back RecordOff = refl
back NoSuchBuffer = refl
back NotUsedYet = refl
back NothingArmed = refl
back Misplaced = refl
back SharesByte = refl
back NoSuchAddress = refl
back MemoryTooLarge = refl
back NoSuchFrame = refl

pub number_injective : (r s : Refusal) → number r ≡ number s → r ≡ s
number_injective r s e = sym (back r) ∙ ap of_number e ∙ back s
