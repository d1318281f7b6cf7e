-- A line that was answered: by the call on its bytes, or by none. Assumes nothing.
use Prim.Native.Nat.{ℕ, ◌/◌}
use native.Mathlib.Omega.{arith}
use mathlib.Core.Path.{◌≡◌, refl, sym, ap, ◌∙◌}
use mathlib.Core.Bool.{true, false, cond, false≢true}
use mathlib.Core.List.{List, [], ◌∷◌}
use lib.ListN.{length, replicate}
use Rattle.state.specs.declared.Core.{Core}
use Rattle.hexline.specs.Line.{is_good, bytes_of, kept_of}
use Rattle.state.specs.declared.Outcome.{Outcome}
use Rattle.bus.specs.declared.Answer.{Answer}
use Rattle.bus.specs.Calls.{packet_of, Leaves}
use Rattle.listing.specs.Listing.{Answered}

-- two characters are a byte
pub length_bytes : (line : List ℕ) → length (bytes_of line) ≡ length line / 2
unfolding bytes_of
length_bytes [] = refl
length_bytes (x ∷ []) = refl
length_bytes (high ∷ low ∷ rest) = omega (arith, length_bytes rest)

module _ (line packet : List ℕ) (core : Core) (memory : List ℕ) (after : Core) where
  pub by_none : is_good line ≡ false → after ≡ core → Answered line packet core memory after memory
  by_none bad same = record { called = λ e. absurd (false≢true (sym bad ∙ e)); uncalled = λ e. (same, refl) }

  pub by_call : (bytes left reply : List ℕ) (o : Outcome Answer) → is_good line ≡ true → bytes ≡ cond (is_good line) (kept_of packet line) []
      → Leaves (packet_of core memory (replicate 1027 0) bytes) o left reply → after ≡ o.core → Answered line packet core memory after left
  by_call bytes left reply o good kept leaves same =
      let e : bytes ≡ kept_of packet line = rw good at kept in
      record {
        called = λ _. (same ∙ ap (λ (x : Outcome Answer). x.core) leaves.outcome_given ∙ rw e, leaves.memory_left ∙ rw e);
        uncalled = λ bad. absurd (false≢true (sym bad ∙ good));
      }
