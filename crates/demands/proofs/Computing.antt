-- Lists are equal where a test says so: a test computes at once, where comparing two terms would unfold them side by side. Assumes nothing.
use Prim.Native.Nat.{ℕ}
use mathlib.Core.Path.{◌≡◌, refl}
use mathlib.Core.Bool.{Bool, true}
use mathlib.Core.List.{List}
use lib.Pointwise.{pointwise}
use Rattle.std.specs.Prelude.{bytes_eq}
use Rattle.std.proofs.lemmas.Slice.Eq.{slice_eq-Decides, bytes_eq-Decides}

abbrev pub same_packets : List (List ℕ) → List (List ℕ) → Bool
same_packets = pointwise bytes_eq

pub same_packets_lem : (xs ys : List (List ℕ)) → same_packets xs ys ≡ true → xs ≡ ys
same_packets_lem xs ys = (slice_eq-Decides bytes_eq-Decides xs ys (same_packets xs ys) refl).0
