-- Packets played one after another on the core, and the sum of what it answers.
use Rattle.std.specs.Prelude.{ℕ, zero, suc, ◌+◌, ◌*◌, ◌%◌, cond, List, leb, length, get_or, take, drop, Result, Ok, Err}
use Rattle.refusals.specs.declared.Refusal.{Refusal}
use Rattle.refusals.specs.Refusals.{number}
use Rattle.state.specs.declared.Core.{Core}
use Rattle.bus.specs.declared.Answer.{Answer}
use Rattle.bus.specs.declared.Answer.TheVariants.{Silent, Reply, Sof}
use Rattle.bus.specs.Calls.{packet_of, timeout_of}
use Rattle.exported.specs.declared.traffic.Played.{Played}
use Rattle.exported.specs.Scene.{bulk_of}

-- what the calls leave: the core, the sum so far, and every lent byte
pub record After : Type 0 where
  pub core : Core
  pub sum : ℕ
  pub memory : List ℕ
  pub reply : List ℕ

-- an answer as one number, with the PID byte of a reply
abbrev pub number_of : Result Answer Refusal → List ℕ → ℕ
number_of (Ok Silent) reply = 1
number_of (Ok (Reply n)) reply = 16777216 + n % 65536 * 256 + get_or reply 0 0
number_of (Ok (Sof frame)) reply = 33554432 + frame
number_of (Err why) reply = 50331648 + number why

-- the order of the answers counts
abbrev pub summed_of : ℕ → Result Answer Refusal → List ℕ → ℕ
summed_of sum answer reply = sum % 4294967296 * 31 + number_of answer reply

-- a packet arrives
unfoldable pub arrived : After → List ℕ → After
arrived s packet =
    let left = packet_of s.core s.memory s.reply packet in
    record {
      core = left.outcome.core;
      sum = summed_of s.sum left.outcome.answer left.reply;
      memory = left.memory;
      reply = left.reply;
    }

-- a wait runs out
unfoldable pub ran_out : After → After
ran_out s =
    let o = timeout_of s.core s.memory s.reply in
    record { core = o.core; sum = summed_of s.sum o.answer s.reply; memory = s.memory; reply = s.reply }

-- a packet, and no other before the time runs out, so many times
abbrev pub waited : List ℕ → ℕ → After → After
waited packet zero s = s
waited packet (suc n) s = ran_out (arrived (waited packet n s) packet)

-- the first packet of a list: two bytes that say its length, low byte first, and its bytes; cut where the list ends
unfoldable pub first_in : List ℕ → List ℕ
first_in list = take (get_or list 0 0 + get_or list 1 0 * 256) (drop 2 list)

-- each packet of a list of at most so many
abbrev pub played_in : ℕ → After → List ℕ → After
played_in zero s list = s
played_in (suc most) s list =
    cond (leb 2 (length list)) (played_in most (arrived s (first_in list)) (drop (2 + length (first_in list)) list)) s

-- each packet of the list, which has two bytes or more for each
abbrev pub played_once : After → List ℕ → After
played_once s list = played_in (length list) s list

-- the bulk buffers are armed again
abbrev pub rearmed : ℕ → After → After
rearmed maximum s = record { core = bulk_of s.core maximum; sum = s.sum; memory = s.memory; reply = s.reply }

-- the list so many times
abbrev pub played_times : ℕ → List ℕ → ℕ → After → After
played_times maximum list zero s = s
played_times maximum list (suc n) s = rearmed maximum (played_once (played_times maximum list n s) list)

-- what was played, with the lent bytes
abbrev pub beside : Played → List ℕ → List ℕ → After
beside p memory reply = record { core = p.core; sum = p.sum; memory = memory; reply = reply }

-- nothing is answered yet
abbrev pub unanswered : Core → List ℕ → List ℕ → After
unanswered core memory reply = record { core = core; sum = 0; memory = memory; reply = reply }
