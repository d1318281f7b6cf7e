-- Under one contract no bus call has two outcomes, memory and reply buffer with them. One law, and a line for each call. Assumes nothing.
use Prim.Native.Nat.{ℕ}
use mathlib.Core.Path.{◌≡◌}
use mathlib.Core.List.{List}
use Rattle.laws.proofs.Once.{Once, once}
use Rattle.state.specs.declared.Core.{Core}
use Rattle.state.specs.declared.Outcome.{Outcome}
use Rattle.bus.specs.declared.Answer.{Answer}
use Rattle.bus.specs.Calls.{packet_of, Leaves, timeout_of}

module _ (core : Core) (memory reply : List ℕ) where
  pub packet_once : (p : List ℕ) (o o' : Outcome Answer) (m m' r r' : List ℕ) → Leaves (packet_of core memory reply p) o m r → Leaves (packet_of core memory reply p) o' m' r' → (o ≡ o') × (m ≡ m') × (r ≡ r')
  packet_once p o o' m m' r r' a b = (once _ o o' a.outcome_given b.outcome_given, once _ m m' a.memory_left b.memory_left, once _ r r' a.reply_left b.reply_left)

  pub timeout_once : Once (timeout_of core memory reply)
  timeout_once = once _
