-- Frauds, as behaviours: the four of document 01, "What the proofs have to nail", and two of our own.
use Rattle.std.specs.Prelude.{ℕ, suc, false, not, ◌&&◌, cond, is_some, Ok, Err, List, ◌++◌, drop}
use Rattle.wire.specs.declared.pid.Kind.TheVariants as pid
use Rattle.wire.specs.Data.{verdict_of}
use Rattle.state.specs.declared.Descriptor.{Descriptor}
use Rattle.state.specs.declared.Descriptor.TheVariants.{Unallocated, Armed}
use Rattle.state.specs.declared.Core.{Core}
use Rattle.state.specs.Update.{with_next, with_buffer, record_at, with_record}
use Rattle.bus.specs.declared.active.Direction.TheVariants.{Out}
use Rattle.bus.specs.declared.Answer.TheVariants.{Silent, Reply}
use Rattle.bus.specs.Active.{active}
use Rattle.bus.specs.Arrival.{is_data_first}
use Rattle.demands.specs.Behaviour.{Lent, Start, Configure, Arm, Disarm, SetHalt, ClearHalt, SetAddress, BusReset, RecordEvents, SystemEvents, Packet, Timeout, ToFirmware, ToBus, Outcome, Behaviour, the_core}
use Rattle.demands.specs.Demand2.{handshake}
use Rattle.demands.specs.Host.{grew}

-- the core, but for what it does with packets
abbrev pub on_packets : (Core → Lent → List ℕ → Outcome) → Behaviour
on_packets f core lent (Start M speed) = the_core core lent (Start M speed)
on_packets f core lent (Configure i condition e) = the_core core lent (Configure i condition e)
on_packets f core lent (Arm i buffer base length) = the_core core lent (Arm i buffer base length)
on_packets f core lent (Disarm i buffer) = the_core core lent (Disarm i buffer)
on_packets f core lent (SetHalt i) = the_core core lent (SetHalt i)
on_packets f core lent (ClearHalt i) = the_core core lent (ClearHalt i)
on_packets f core lent (SetAddress address) = the_core core lent (SetAddress address)
on_packets f core lent (BusReset speed) = the_core core lent (BusReset speed)
on_packets f core lent (RecordEvents i) = the_core core lent (RecordEvents i)
on_packets f core lent SystemEvents = the_core core lent SystemEvents
on_packets f core lent (Packet p) = f core lent p
on_packets f core lent Timeout = the_core core lent Timeout

-- ---- "a core that is always silent or refuses every call"

abbrev pub silence : Core → Lent → Outcome
silence core lent = record { core = core; lent = lent; answer = ToBus (Ok Silent) }

abbrev pub always_silent : Behaviour
always_silent = on_packets (λ core lent p. silence core lent)

abbrev pub refuses_all : Behaviour
refuses_all core lent call = record { core = core; lent = lent; answer = ToFirmware (Err 1) }

-- ---- "one that says ACK to all"

-- ACK, and nothing is stored
abbrev pub false_ack : Core → Lent → Outcome
false_ack core lent =
    record {
      core = core;
      lent = record { memory = lent.memory; reply = handshake pid.Ack ++ drop 1 lent.reply };
      answer = ToBus (Ok (Reply 1));
    }

-- ACK to every data packet; its tokens are read as the core reads them
abbrev pub acks_all : Behaviour
acks_all = on_packets (λ core lent p. cond (is_data_first p) (false_ack core lent) (the_core core lent (Packet p)))

-- ---- "one that stores the first payload and afterwards only acknowledges"

-- for record i: the toggle has moved once, and from then on it only acknowledges
abbrev pub stores_first : ℕ → Behaviour
stores_first i =
    on_packets
    (λ core lent p. cond ((record_at core i).toggles.out_side && is_data_first p) (false_ack core lent) (the_core core lent (Packet p)))

-- ---- "one whose done count is invented"

-- one byte more than was stored
abbrev pub one_more : Descriptor → Descriptor → Descriptor
one_more old Unallocated = Unallocated
one_more old (Armed base length done used) = Armed base length (cond (grew old (Armed base length done used)) (suc done) done) used

-- in buffer 0 of record i
abbrev pub inventing : ℕ → Core → Outcome → Outcome
inventing i core o =
    let r = record_at o.core i in
    record {
      core = with_record o.core i (with_buffer r false (one_more (record_at core i).first r.first));
      lent = o.lent;
      answer = o.answer;
    }

abbrev pub invents_done : ℕ → Behaviour
invents_done i = on_packets (λ core lent p. inventing i core (the_core core lent (Packet p)))

-- ---- our own: one that acknowledges a packet whose check fails

abbrev pub acks_broken : Behaviour
acks_broken =
    on_packets
    (λ core lent p. cond (is_data_first p && not (is_some (verdict_of p))) (false_ack core lent) (the_core core lent (Packet p)))

-- ---- our own: one that chooses any free buffer

-- where the marked buffer of record i is not active, the mark goes to the other before the packet is read
abbrev pub other_marked : ℕ → Core → Core
other_marked i core = with_record core i (with_next (record_at core i) (not (record_at core i).next))

abbrev pub any_free : ℕ → Behaviour
any_free i =
    on_packets
    (λ core lent p. cond (active Out (record_at core i)) (the_core core lent (Packet p)) (the_core (other_marked i core) lent (Packet p)))
