-- The cases of a packet: what holds of each turn and of each step without one holds of every packet. Assumes nothing.
use Prim.Native.Nat.{ℕ}
use mathlib.Core.Path.{◌≡◌, refl, subst}
use mathlib.Core.Bool.{Bool, true, false, cond, false≢true}
use mathlib.Core.List.{List}
use lib.Dec.{eqb}
use Rattle.std.specs.Prelude.{Option, Some, None}
use Rattle.wire.specs.declared.pid.Kind as pid
use Rattle.wire.specs.declared.pid.Kind.TheVariants as packet
use Rattle.wire.specs.declared.token.Token as wire
use Rattle.wire.specs.Token.{token_of}
use Rattle.state.specs.declared.Speed.{Speed}
use Rattle.state.specs.declared.Speed.TheVariants.{Full, High}
use Rattle.state.specs.declared.RecordEvent.TheVariants.{NotGood, OutOfPlace}
use Rattle.state.specs.declared.SystemEvent.{SystemEvent}
use Rattle.state.specs.declared.Record.{Record}
use Rattle.state.specs.declared.Stage.{Stage}
use Rattle.state.specs.declared.Wait.{Wait}
use Rattle.state.specs.declared.Wait.TheVariants as wait
use Rattle.state.specs.declared.Core.{Core}
use Rattle.state.specs.Update.{record_at}
use Rattle.state.specs.Sound.{WaitSound, Sound}
use Rattle.bus.specs.declared.token.Asks.{Asks}
use Rattle.bus.specs.declared.token.Asks.TheVariants as asks
use Rattle.bus.specs.declared.idle.Met.{Met}
use Rattle.bus.specs.declared.idle.Met.TheVariants.{Nothing, Trouble, Frame, Token}
use Rattle.bus.specs.declared.turn.Says.TheVariants as says
use Rattle.bus.specs.declared.turn.Turn.{Turn}
use Rattle.bus.specs.declared.turn.Step.{Step}
use Rattle.bus.specs.Turn.{noting, placed, unchanged, signalling}
use Rattle.bus.specs.Active.{acknowledged}
use Rattle.bus.specs.Tokens.{direction_of, turn_of}
use Rattle.bus.specs.Search.{found_in}
use Rattle.bus.specs.Data.{staged, sequenced, data_turn}
use Rattle.bus.specs.Idle.{first_pid, found_as, addressed, framed, pinged, by_kind, by_pid, meeting, met_by, no_wait}
use Rattle.bus.specs.Arrival.{is_data_first, is_ack, data_step, awaited, awaited_step, fulfilled, packet_step, timed_out}
use Rattle.bus.proofs.Turns.{choice}
use Rattle.bus.proofs.Serving.{Serving}
use Rattle.bus.proofs.Finding.{Searched, searched, found_serving}

-- ---- data awaited

-- the data PID of a toggle
abbrev pub kind_of_toggle : Bool → pid.Kind
kind_of_toggle toggle = cond toggle packet.Data1 packet.Data0

module _ (speed : Speed) (stage : Stage) (r : Record) (v : Option pid.Kind) (n : ℕ) (Q : Turn → Type 0) where
  pub record DataCases : Type 0 where
    pub not_good : Q (noting r NotGood)
    pub out_of_place : Q (noting r OutOfPlace)
    pub in_stage : (toggle : Bool) → v ≡ Some (kind_of_toggle toggle) → Q (staged speed stage r toggle n)

  sequenced_by : DataCases → (k : pid.Kind) → v ≡ Some k → Q (sequenced speed stage r k n)
  sequenced_by c packet.Data0 e = c.in_stage false e
  sequenced_by c packet.Data1 e = c.in_stage true e
  sequenced_by c packet.Data2 e = c.out_of_place
  sequenced_by c packet.Mdata e = c.out_of_place
  sequenced_by c packet.Out e = c.out_of_place
  sequenced_by c packet.In e = c.out_of_place
  sequenced_by c packet.Sof e = c.out_of_place
  sequenced_by c packet.Setup e = c.out_of_place
  sequenced_by c packet.Ack e = c.out_of_place
  sequenced_by c packet.Nak e = c.out_of_place
  sequenced_by c packet.Stall e = c.out_of_place
  sequenced_by c packet.Nyet e = c.out_of_place
  sequenced_by c packet.Pre e = c.out_of_place
  sequenced_by c packet.Split e = c.out_of_place
  sequenced_by c packet.Ping e = c.out_of_place
  sequenced_by c packet.Reserved e = c.out_of_place

  pub data_by : DataCases → Q (data_turn speed stage r v n)
  data_by c = go v refl
    where
      go : (x : Option pid.Kind) → v ≡ x → Q (data_turn speed stage r x n)
      go None e = c.not_good
      go (Some k) e = sequenced_by c k e

-- ---- the kinds of a packet that is read with no wait

-- a kind that is nothing to the core, a token, an SOF: of two packets of one kind
module _ (core : Core) (p q : List ℕ) (P : Met → Met → Type 0) where
  pub record KindCases : Type 0 where
    pub unmet : P Nothing Nothing
    pub a_token : (a : Asks) → P (addressed core a (token_of p)) (addressed core a (token_of q))
    pub an_sof : P (framed (token_of p)) (framed (token_of q))

  pinged_by : KindCases → (speed : Speed) → P (pinged core speed p) (pinged core speed q)
  pinged_by c Full = c.unmet
  pinged_by c High = c.a_token asks.Ping

  pub kind_by : KindCases → (k : pid.Kind) → P (by_kind core k p) (by_kind core k q)
  kind_by c packet.Out = c.a_token asks.Out
  kind_by c packet.In = c.a_token asks.In
  kind_by c packet.Setup = c.a_token asks.Setup
  kind_by c packet.Sof = c.an_sof
  kind_by c packet.Ping = pinged_by c core.speed
  kind_by c packet.Data0 = c.unmet
  kind_by c packet.Data1 = c.unmet
  kind_by c packet.Data2 = c.unmet
  kind_by c packet.Mdata = c.unmet
  kind_by c packet.Ack = c.unmet
  kind_by c packet.Nak = c.unmet
  kind_by c packet.Stall = c.unmet
  kind_by c packet.Nyet = c.unmet
  kind_by c packet.Pre = c.unmet
  kind_by c packet.Split = c.unmet
  kind_by c packet.Reserved = c.unmet

-- ---- no wait

-- a token is for a record that serves it
abbrev MetSound : Core → Met → Type 0
MetSound core Nothing = Unit {0}
MetSound core (Trouble event) = Unit {0}
MetSound core (Frame frame) = Unit {0}
MetSound core (Token a i) = Serving core i (direction_of a)

module _ (core : Core) (w : Sound core) where
  found_met : (a : Asks) (number : ℕ) (f : Option ℕ) → Searched core number (direction_of a) f → MetSound core (found_as a f)
  found_met a number None s = tt
  found_met a number (Some i) s = found_serving core w number (direction_of a) i s

  addressed_met : (a : Asks) (t : Option wire.Token) → MetSound core (addressed core a t)
  addressed_met a None = tt
  addressed_met a (Some token) =
      choice (MetSound core) (eqb token.address core.address) _ _
      (λ e. found_met a token.endpoint (found_in token.endpoint (direction_of a) core.records) (searched core w token.endpoint (direction_of a)))
      (λ e. tt)

  framed_met : (t : Option wire.Token) → MetSound core (framed t)
  framed_met None = tt
  framed_met (Some token) = tt

  met_sound : (p : List ℕ) → MetSound core (meeting core p)
  unfolding meeting
  met_sound p = go (first_pid p)
    where
      go : (x : Option pid.Kind) → MetSound core (by_pid core x p)
      go None = tt
      go (Some k) =
          kind_by core p p (λ (m n : Met). MetSound core m)
          (record { unmet = tt; a_token = λ a. addressed_met a (token_of p); an_sof = framed_met (token_of p) }) k

  pub token_serving : (p : List ℕ) (a : Asks) (i : ℕ) → meeting core p ≡ Token a i → Serving core i (direction_of a)
  token_serving p a i e = subst (MetSound core) e (met_sound p)

module _ (core : Core) (p : List ℕ) (P : Step → Type 0) where
  pub record IdleCases : Type 0 where
    pub quiet : P (unchanged core says.Silence)
    pub trouble : (event : SystemEvent) → P (signalling core event)
    pub frame : (n : ℕ) → P (unchanged core (says.Frame n))
    pub token : (a : Asks) (i : ℕ) → meeting core p ≡ Token a i → Serving core i (direction_of a) → P (placed core i (turn_of a i (record_at core i)))

  pub no_wait_by : Sound core → IdleCases → P (no_wait core p)
  unfolding no_wait
  no_wait_by w c = go (meeting core p) refl
    where
      go : (m : Met) → meeting core p ≡ m → P (met_by core m)
      go Nothing e = c.quiet
      go (Trouble event) e = c.trouble event
      go (Frame frame) e = c.frame frame
      go (Token a i) e = c.token a i e (token_serving core w p a i e)

-- ---- a packet

module _ (core : Core) (p : List ℕ) (P : Step → Type 0) where
  pub record PacketCases : Type 0 where
    pub awaited_data : (i : ℕ) (stage : Stage) → core.wait ≡ wait.Data i stage → is_data_first p ≡ true → WaitSound core (wait.Data i stage) → P (data_step core i stage p)
    pub awaited_ack : (i : ℕ) (buffer : Bool) (sent : ℕ) → core.wait ≡ wait.Acknowledge i buffer sent → is_ack p ≡ true → WaitSound core (wait.Acknowledge i buffer sent) → P (placed core i (acknowledged (record_at core i) buffer sent))
    pub idle : awaited core.wait p ≡ false → P (no_wait (timed_out core) p)

  pub packet_by : Sound core → PacketCases → P (packet_step core p)
  unfolding packet_step fulfilled
  packet_by w c = choice P (awaited core.wait p) _ _ (go core.wait refl w.wait_sound) c.idle
    where
      go : (v : Wait) → core.wait ≡ v → WaitSound core v → awaited v p ≡ true → P (awaited_step v core p)
      go wait.Nothing e s a = absurd (false≢true a)
      go (wait.Data i stage) e s a = c.awaited_data i stage e a s
      go (wait.Acknowledge i buffer sent) e s a = c.awaited_ack i buffer sent e a s
