-- Document 01, "The night desk's listing": what a line does.
use Rattle.std.specs.Prelude.{ℕ, min, ◌≡◌, true, false, List, length, replicate}
use Rattle.state.specs.declared.Core.{Core}
use Rattle.hexline.specs.Line.{is_good, kept_of, Stands}
use Rattle.bus.specs.Calls.{Left, packet_of}
use Rattle.listing.specs.declared.desk.Desk.{Desk}

-- what the desk says of the characters of a line that were taken: the reader's state, and how many they are
pub record Taken (line : List ℕ) (desk : Desk) : Type 0 where
  pub stands : Stands line desk.line desk.packet
  pub sized : desk.size ≡ min (length line) 4294967295

-- the call of the packet whose bytes the line gives, with a fresh reply buffer
abbrev pub called_by : List ℕ → List ℕ → Core → List ℕ → Left
called_by line packet core memory = packet_of core memory (replicate 1027 0) (kept_of packet line)

-- a good line is that call; any other makes none, and state and memory stay
pub record Answered (line packet : List ℕ) (core : Core) (memory : List ℕ) (after : Core) (left : List ℕ) : Type 0 where
  pub called : is_good line ≡ true → (after ≡ (called_by line packet core memory).outcome.core) × (left ≡ (called_by line packet core memory).memory)
  pub uncalled : is_good line ≡ false → (after ≡ core) × (left ≡ memory)
