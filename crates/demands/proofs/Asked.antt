-- What a packet that is read with no wait asks: a token that is met has its PID byte, its check and the number of the record. Assumes nothing.
use Prim.Native.Nat.{ℕ}
use mathlib.Core.Path.{◌≡◌, refl, sym, ap}
use mathlib.Core.Bool.{Bool, true, false, cond}
use mathlib.Core.List.{List}
use lib.Dec.{eqb}
use borrow.Author.Tests.{eqb-true}
use Rattle.std.specs.Prelude.{Option, Some, None, is_some}
use Rattle.wire.specs.declared.pid.Kind.{Kind}
use Rattle.wire.specs.declared.pid.Kind.TheVariants as pid
use Rattle.wire.specs.declared.token.Token.{Token}
use Rattle.wire.specs.Token.{token_of}
use Rattle.state.specs.declared.Speed.{Speed}
use Rattle.state.specs.declared.Speed.TheVariants.{Full, High}
use Rattle.state.specs.declared.Core.{Core}
use Rattle.state.specs.Update.{record_at}
use Rattle.state.specs.Sound.{Sound}
use Rattle.bus.specs.declared.token.Asks.{Asks}
use Rattle.bus.specs.declared.token.Asks.TheVariants as asks
use Rattle.bus.specs.declared.idle.Met as idle
use Rattle.bus.specs.declared.idle.Met.TheVariants as met
use Rattle.bus.specs.Tokens.{direction_of}
use Rattle.bus.specs.Search.{found_in}
use Rattle.bus.specs.Idle.{first_pid, found_as, addressed, framed, pinged, by_kind, by_pid, meeting}
use Rattle.bus.proofs.Finding.{Searched, searched, serving_parts}
use Rattle.demands.specs.Host.{pid_is}
use Rattle.demands.proofs.HostPackets.{pid_is_lem}

abbrev pub token_kind : Asks → Kind
token_kind asks.Out = pid.Out
token_kind asks.Setup = pid.Setup
token_kind asks.Ping = pid.Ping
token_kind asks.In = pid.In

-- a good token of this PID for the core's address and the record's number
pub record Addressed (core : Core) (p : List ℕ) (a : Asks) (i : ℕ) : Type 0 where
  pub its_pid : pid_is (token_kind a) p ≡ true
  pub token : Token
  pub its_token : token_of p ≡ Some token
  pub its_address : token.address ≡ core.address
  pub its_number : token.endpoint ≡ (record_at core i).endpoint.number

abbrev pub Asked : Core → List ℕ → idle.Met → Type 0
Asked core p met.Nothing = Unit {0}
Asked core p (met.Trouble event) = Unit {0}
Asked core p (met.Frame n) = (pid_is pid.Sof p ≡ true) × (is_some (token_of p) ≡ true)
Asked core p (met.Token a i) = Addressed core p a i

module _ (core : Core) (w : Sound core) (p : List ℕ) where
  addressed_asked : (a : Asks) → pid_is (token_kind a) p ≡ true → (t : Option Token) → token_of p ≡ t → Asked core p (addressed core a t)
  addressed_asked a e None f = tt
  addressed_asked a e (Some t) f = pick (eqb t.address core.address) refl
    where
      go : t.address ≡ core.address → (x : Option ℕ) → Searched core t.endpoint (direction_of a) x → Asked core p (found_as a x)
      go g None s = tt
      go g (Some i) s =
          record {
            its_pid = e;
            token = t;
            its_token = f;
            its_address = g;
            its_number = sym (serving_parts t.endpoint (direction_of a) (record_at core i) s.1).1;
          }

      pick : (b : Bool) → eqb t.address core.address ≡ b → Asked core p (cond b (found_as a (found_in t.endpoint (direction_of a) core.records)) met.Nothing)
      pick true g = go (eqb-true t.address core.address g) (found_in t.endpoint (direction_of a) core.records) (searched core w t.endpoint (direction_of a))
      pick false g = tt

  framed_asked : pid_is pid.Sof p ≡ true → (t : Option Token) → token_of p ≡ t → Asked core p (framed t)
  framed_asked e None f = tt
  framed_asked e (Some t) f = (e, ap is_some f)

  pinged_asked : pid_is pid.Ping p ≡ true → (speed : Speed) → Asked core p (pinged core speed p)
  pinged_asked e Full = tt
  pinged_asked e High = addressed_asked asks.Ping e (token_of p) refl

  kind_asked : (k : Kind) → pid_is k p ≡ true → Asked core p (by_kind core k p)
  kind_asked pid.Out e = addressed_asked asks.Out e (token_of p) refl
  kind_asked pid.In e = addressed_asked asks.In e (token_of p) refl
  kind_asked pid.Setup e = addressed_asked asks.Setup e (token_of p) refl
  kind_asked pid.Sof e = framed_asked e (token_of p) refl
  kind_asked pid.Ping e = pinged_asked e core.speed
  kind_asked pid.Data0 e = tt
  kind_asked pid.Data1 e = tt
  kind_asked pid.Data2 e = tt
  kind_asked pid.Mdata e = tt
  kind_asked pid.Ack e = tt
  kind_asked pid.Nak e = tt
  kind_asked pid.Stall e = tt
  kind_asked pid.Nyet e = tt
  kind_asked pid.Pre e = tt
  kind_asked pid.Split e = tt
  kind_asked pid.Reserved e = tt

  pub asked : Asked core p (meeting core p)
  unfolding meeting
  asked = go (first_pid p) refl
    where
      go : (x : Option Kind) → first_pid p ≡ x → Asked core p (by_pid core x p)
      go None e = tt
      go (Some k) e = kind_asked k (pid_is_lem p k e)
