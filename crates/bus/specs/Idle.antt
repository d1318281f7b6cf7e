-- Document 01, "A packet arrives": no wait, in this order.
use Rattle.std.specs.Prelude.{ℕ, cond, List, [], ◌∷◌, eqb, Option, Some, None}
use Rattle.wire.specs.declared.pid.Kind.{Kind}
use Rattle.wire.specs.declared.pid.Kind.TheVariants as pid
use Rattle.wire.specs.declared.token.Token as wire
use Rattle.wire.specs.Pid.{pid_of}
use Rattle.wire.specs.Token.{token_of}
use Rattle.state.specs.declared.Speed.{Speed}
use Rattle.state.specs.declared.Speed.TheVariants.{Full, High}
use Rattle.state.specs.declared.SystemEvent.TheVariants.{BadPid, BadToken, Unserved}
use Rattle.state.specs.declared.Core.{Core}
use Rattle.state.specs.Update.{record_at}
use Rattle.bus.specs.declared.token.Asks.{Asks}
use Rattle.bus.specs.declared.token.Asks.TheVariants.{Out, Setup, Ping, In}
use Rattle.bus.specs.declared.idle.Met.{Met}
use Rattle.bus.specs.declared.idle.Met.TheVariants.{Nothing, Trouble, Frame, Token}
use Rattle.bus.specs.declared.turn.Says.TheVariants as says
use Rattle.bus.specs.declared.turn.Says.TheVariants.{Silence}
use Rattle.bus.specs.declared.turn.Step.{Step}
use Rattle.bus.specs.Turn.{placed, unchanged, signalling}
use Rattle.bus.specs.Search.{found_in}
use Rattle.bus.specs.Tokens.{direction_of, turn_of}

-- an empty packet has no PID that passes its check
abbrev pub first_pid : List ℕ → Option Kind
first_pid [] = None
first_pid (byte ∷ bytes) = pid_of byte

-- no live record for number and direction (OUT, SETUP, PING look on the OUT side): event 22
abbrev pub found_as : Asks → Option ℕ → Met
found_as asks None = Trouble Unserved
found_as asks (Some i) = Token asks i

-- OUT, IN, SETUP, PING not of 3 bytes or with wrong CRC5: event 20. Other address: nothing
abbrev pub addressed : Core → Asks → Option wire.Token → Met
addressed core asks None = Trouble BadToken
addressed core asks (Some token) =
    cond (eqb token.address core.address) (found_as asks (found_in token.endpoint (direction_of asks) core.records)) Nothing

-- SOF not of 3 bytes or with wrong CRC5: event 20. SOF: answered as SOF with its frame number
abbrev pub framed : Option wire.Token → Met
framed None = Trouble BadToken
framed (Some token) = Frame token.frame

-- PING at full speed: nothing
abbrev pub pinged : Core → Speed → List ℕ → Met
pinged core Full packet = Nothing
pinged core High packet = addressed core Ping (token_of packet)

-- data, handshakes, PRE, SPLIT, reserved: nothing
abbrev pub by_kind : Core → Kind → List ℕ → Met
by_kind core pid.Out packet = addressed core Out (token_of packet)
by_kind core pid.In packet = addressed core In (token_of packet)
by_kind core pid.Setup packet = addressed core Setup (token_of packet)
by_kind core pid.Sof packet = framed (token_of packet)
by_kind core pid.Ping packet = pinged core core.speed packet
by_kind core pid.Data0 packet = Nothing
by_kind core pid.Data1 packet = Nothing
by_kind core pid.Data2 packet = Nothing
by_kind core pid.Mdata packet = Nothing
by_kind core pid.Ack packet = Nothing
by_kind core pid.Nak packet = Nothing
by_kind core pid.Stall packet = Nothing
by_kind core pid.Nyet packet = Nothing
by_kind core pid.Pre packet = Nothing
by_kind core pid.Split packet = Nothing
by_kind core pid.Reserved packet = Nothing

-- empty or wrong PID check: system event 21
abbrev pub by_pid : Core → Option Kind → List ℕ → Met
by_pid core None packet = Trouble BadPid
by_pid core (Some kind) packet = by_kind core kind packet

-- what the packet is to the core
unfoldable pub meeting : Core → List ℕ → Met
meeting core packet = by_pid core (first_pid packet) packet

-- all these are silent; then the record's turn
abbrev pub met_by : Core → Met → Step
met_by core Nothing = unchanged core Silence
met_by core (Trouble event) = signalling core event
met_by core (Frame frame) = unchanged core (says.Frame frame)
met_by core (Token asks i) = placed core i (turn_of asks i (record_at core i))

unfoldable pub no_wait : Core → List ℕ → Step
no_wait core packet = met_by core (meeting core packet)
