-- Under one contract no method of a text has two outcomes, its bytes with them. Assumes nothing.
use Prim.Native.Nat.{ℕ}
use mathlib.Core.Path.{◌≡◌}
use mathlib.Core.List.{List}
use lib.ListN.{take, replicate}
use Rattle.laws.proofs.Once.{Once, once}
use Rattle.script.specs.Text.{Laid, shown_of}
use Rattle.lines.specs.Texts.{Empty}
use Rattle.script.proofs.Unique.{put_once as script_put_once, put_bytes_once as script_put_bytes_once}

-- how many bytes were written, and the memory
empty_once : (memory : List ℕ) (n n' : ℕ) (b b' : List ℕ) → Empty n b memory → Empty n' b' memory → (n ≡ n') × (b ≡ b')
empty_once memory n n' b b' e e' = (once _ n n' e.none_written e'.none_written, once _ b b' e.memory_is e'.memory_is)

pub new_once : (N n n' : ℕ) (b b' : List ℕ) → Empty n b (replicate N 0) → Empty n' b' (replicate N 0) → (n ≡ n') × (b ≡ b')
new_once N = empty_once (replicate N 0)

pub clear_once : (old : List ℕ) (n n' : ℕ) (b b' : List ℕ) → Empty n b old → Empty n' b' old → (n ≡ n') × (b ≡ b')
clear_once old = empty_once old

pub as_bytes_once : (bytes : List ℕ) (length : ℕ) → Once (take length bytes)
as_bytes_once bytes length = once _

pub put_bytes_once : (old : List ℕ) (at : ℕ) (bytes : List ℕ) (r r' : ℕ) (t t' : List ℕ) → Laid old at (shown_of bytes) r t → Laid old at (shown_of bytes) r' t' → (r ≡ r') × (t ≡ t')
put_bytes_once old at bytes = script_put_bytes_once old at bytes

pub write_str_once : (old : List ℕ) (at : ℕ) (bytes : List ℕ) (r r' : ℕ) (t t' : List ℕ) → Laid old at bytes r t → Laid old at bytes r' t' → (r ≡ r') × (t ≡ t')
write_str_once old at bytes = script_put_once old at bytes
