-- A bus call that lends what refusals 2 and 3 ask is not refused: it leaves what the packet's step leaves, and what that says is heard; any other leaves
-- everything. Assumes nothing.
use Prim.Native.Nat.{ℕ}
use mathlib.Core.Path.{◌≡◌, refl, sym, ◌∙◌, ap}
use mathlib.Core.Bool.{true}
use mathlib.Core.List.{List, []}
use lib.Dec.{leb, eqb}
use lib.ListN.{length}
use borrow.Author.Tests.{leb-true, le-ltb}
use Rattle.std.specs.Prelude.{Result, Ok, Err}
use Rattle.laws.proofs.Bools.{both}
use Rattle.refusals.specs.declared.Refusal.{Refusal}
use Rattle.wire.specs.Data.{payload_of}
use Rattle.state.specs.declared.Core.{Core}
use Rattle.state.specs.declared.Outcome as state
use Rattle.state.specs.Sound.{Sound}
use Rattle.state.proofs.Tested.{passes}
use Rattle.bus.specs.declared.Answer as bus
use Rattle.bus.specs.declared.turn.Says.{Says}
use Rattle.bus.specs.declared.turn.Says.TheVariants.{Silence, Ack, Nak, Stall, Nyet, Data, Frame}
use Rattle.bus.specs.declared.turn.Step.{Step}
use Rattle.bus.specs.Turn.{stored, said, laid}
use Rattle.bus.specs.Answers.{answer_of}
use Rattle.bus.specs.Arrival.{timed_out, packet_step}
use Rattle.bus.specs.Calls.{Left, lend_refusal, kept, carried}
use Rattle.bus.proofs.Lent.{packet_accepted, packet_refused, timeout_accepted}
use Rattle.bus.proofs.Stretches.{reply_first}
use Rattle.demands.specs.Behaviour.{Lent, Packet, Timeout, Outcome, sent_of, heard, on_bus, the_core}
use Rattle.demands.specs.Demand2.{lends}

-- what a step leaves and answers
abbrev leaves : Left → Outcome
leaves left = on_bus left.outcome left.memory left.reply

abbrev pub brought : Step → List ℕ → Lent → Outcome
brought x payload lent = leaves (carried x payload lent.memory lent.reply)

-- the bytes that a step says, after it stored
abbrev pub bytes_of : Step → List ℕ → List ℕ → List ℕ
bytes_of x payload memory = said x.says (stored x.store payload memory)

pub heard_said : (x : Step) (payload : List ℕ) (lent : Lent) → heard (brought x payload lent) ≡ bytes_of x payload lent.memory
unfolding heard
heard_said x payload lent = go x.says
  where
    m : List ℕ
    m = stored x.store payload lent.memory

    go : (s : Says) → sent_of (Ok (answer_of s (length (said s m)))) (laid (said s m) lent.reply) ≡ said s m
    go Silence = refl
    go Ack = reply_first (said Ack m) lent.reply
    go Nak = reply_first (said Nak m) lent.reply
    go Stall = reply_first (said Stall m) lent.reply
    go Nyet = reply_first (said Nyet m) lent.reply
    go (Data toggle from count) = reply_first (said (Data toggle from count) m) lent.reply
    go (Frame frame) = refl

-- ---- accepted or refused

module _ (core : Core) (lent : Lent) (p : List ℕ) where
  abbrev refused_as : Result Unit Refusal
  refused_as = lend_refusal core lent.memory lent.reply

  pub call_accepted : refused_as ≡ Ok tt → the_core core lent (Packet p) ≡ brought (packet_step core p) (payload_of p) lent
  call_accepted z = ap leaves (packet_accepted core lent.memory lent.reply p z)

  pub call_refused : (why : Refusal) → refused_as ≡ Err why → the_core core lent (Packet p) ≡ leaves (kept core lent.memory lent.reply why)
  call_refused why e = ap leaves (packet_refused core lent.memory lent.reply p why e)

  pub heard_accepted : refused_as ≡ Ok tt → heard (the_core core lent (Packet p)) ≡ bytes_of (packet_step core p) (payload_of p) lent.memory
  heard_accepted z = ap heard (call_accepted z) ∙ heard_said (packet_step core p) (payload_of p) lent

  pub heard_refused : (why : Refusal) → refused_as ≡ Err why → heard (the_core core lent (Packet p)) ≡ []
  unfolding heard
  heard_refused why e = ap heard (call_refused why e)

  pub memory_accepted : refused_as ≡ Ok tt → (the_core core lent (Packet p)).lent.memory ≡ stored (packet_step core p).store (payload_of p) lent.memory
  memory_accepted z = ap (λ (o : Outcome). o.lent.memory) (call_accepted z)

-- ---- a sound state, and what refusals 2 and 3 ask

module _ (core : Core) (lent : Lent) (w : Sound core) (l : lends core lent ≡ true) where
  pub not_refused : lend_refusal core lent.memory lent.reply ≡ Ok tt
  not_refused =
      let p = both (eqb (length lent.memory) core.memory_size) (leb 1027 (length lent.reply)) l in
      rw (passes core w, p.0, le-ltb (length lent.reply) 1027 (leb-true 1027 (length lent.reply) p.1))

  pub packet_brings : (p : List ℕ) → the_core core lent (Packet p) ≡ brought (packet_step core p) (payload_of p) lent
  packet_brings p = call_accepted core lent p not_refused

  pub packet_core : (p : List ℕ) → (packet_step core p).core ≡ (the_core core lent (Packet p)).core
  packet_core p = sym (ap (λ (o : Outcome). o.core) (packet_brings p))

  pub timeout_core : timed_out core ≡ (the_core core lent Timeout).core
  timeout_core = sym (ap (λ (o : state.Outcome bus.Answer). o.core) (timeout_accepted core lent.memory lent.reply not_refused))
