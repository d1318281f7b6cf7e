-- The host's token makes the core wait for data on the endpoint's record: the search finds it, and no other. Assumes nothing.
use Prim.Native.Nat.{ℕ, ◌≤◌}
use native.Mathlib.Omega.{arith}
use mathlib.Core.Path.{◌≡◌, refl, sym, ◌∙◌, ap, subst}
use mathlib.Core.Bool.{true, true≢false}
use mathlib.Core.List.{[], ◌∷◌}
use lib.Dec.{leb}
use borrow.Author.Tests.{leb-true, eq-eqb}
use Rattle.std.specs.Prelude.{Option, Some, None}
use Rattle.laws.proofs.Bools.{parts}
use Rattle.wire.specs.declared.pid.Kind.{Kind}
use Rattle.state.specs.declared.Record.{Record}
use Rattle.state.specs.declared.Stage.TheVariants as stage
use Rattle.state.specs.declared.Wait.TheVariants as wait
use Rattle.state.specs.declared.Core.{Core}
use Rattle.state.specs.Update.{record_at}
use Rattle.state.specs.Ranges.{live, type_fits, maximum_fits, endpoint_fits, LiveSound}
use Rattle.state.proofs.Kept.{as_live}
use Rattle.bus.specs.declared.active.Direction.TheVariants.{Out}
use Rattle.bus.specs.declared.token.Asks.TheVariants as asks
use Rattle.bus.specs.declared.idle.Met as idle
use Rattle.bus.specs.declared.idle.Met.TheVariants as met
use Rattle.bus.specs.declared.turn.Step.{Step}
use Rattle.bus.specs.Search.{served_by, found_in}
use Rattle.bus.specs.Idle.{found_as, addressed, by_pid, meeting, met_by, no_wait}
use Rattle.bus.specs.Arrival.{timed_out, packet_step}
use Rattle.bus.proofs.Sizes.{maximum_most}
use Rattle.bus.proofs.Finding.{Searched, searched}
use Rattle.bus.proofs.Cases.{packet_by}
use Rattle.demands.specs.Behaviour.{Lent, Packet, the_core}
use Rattle.demands.specs.Demand2.{lends}
use Rattle.demands.specs.Host.{Setting, out_token}
use Rattle.demands.specs.Demand3.{Plays}
use Rattle.demands.proofs.Spared.{as_it_was, Quiet, quiet_then, quiet_placed}
use Rattle.demands.proofs.HostPackets.{token_first, token_no_data, token_no_ack, token_reads}
use Rattle.demands.proofs.BusCalls.{packet_core}
use Rattle.demands.proofs.Late.{timeout_quiet, still_plays}

module _ (s : Setting) (core : Core) (plays : Plays s core) where
  abbrev r : Record
  r = record_at core s.index

  its_range : LiveSound core.memory_size core.speed r
  its_range =
      as_live r.condition core.memory_size core.speed r (ap live plays.is_normal) (plays.sound.each_record s.index plays.index_within)

  number_small : s.endpoint ≤ 15
  unfolding endpoint_fits
  number_small =
      let p = parts (leb r.endpoint.number 15) (type_fits r.endpoint.kind r.endpoint.transfer ∷ maximum_fits core.speed r.endpoint.transfer r.endpoint.maximum ∷ []) its_range.endpoint_fitting in
      omega (arith, leb-true r.endpoint.number 15 p.0, plays.same_number)

  pub maximum_small : r.endpoint.maximum ≤ 1024
  maximum_small = maximum_most core.speed r.endpoint its_range.endpoint_fitting

  -- ---- the search

  serves_it : served_by s.endpoint Out r ≡ true
  unfolding served_by
  serves_it = rw (plays.is_normal, eq-eqb r.endpoint.number s.endpoint plays.same_number, plays.is_out)

  found : found_in s.endpoint Out core.records ≡ Some s.index
  found = go (found_in s.endpoint Out core.records) (searched core plays.sound s.endpoint Out)
    where
      go : (x : Option ℕ) → Searched core s.endpoint Out x → x ≡ Some s.index
      go None none = absurd (true≢false (sym serves_it ∙ none s.index plays.index_within))
      go (Some i) at = ap Some (sym (at.2 s.index plays.index_within serves_it))

  token_met : meeting core (out_token s) ≡ met.Token asks.Out s.index
  unfolding meeting
  token_met =
      let a = plays.sound.address_within in
      ap (λ (x : Option Kind). by_pid core x (out_token s)) (token_first s)
      ∙ ap (addressed core asks.Out) (token_reads s (omega (arith, a, plays.same_address)) number_small)
      ∙ rw (eq-eqb s.address core.address (sym plays.same_address)) (ap (found_as asks.Out) found)

  -- the record is left alone, and the core waits for data after OUT on it
  pub record Opened (core' : Core) : Type 0 where
    pub quiet : Quiet s.index core core'
    pub waits : core'.wait ≡ wait.Data s.index stage.Out

  idle_opens : Opened (no_wait core (out_token s)).core
  unfolding no_wait
  idle_opens =
      subst (λ (x : idle.Met). Opened (met_by core x).core) (sym token_met)
      (record { quiet = quiet_placed s core plays s.index r _ (λ e. as_it_was r); waits = refl })

module _ (s : Setting) (core : Core) (plays : Plays s core) where
  step_opens : Opened s core plays (packet_step core (out_token s)).core
  step_opens =
      packet_by core (out_token s) (λ (x : Step). Opened s core plays x.core) plays.sound
      (record {
        awaited_data = λ i x e d v. absurd (true≢false (sym d ∙ token_no_data s));
        awaited_ack = λ i b n e a v. absurd (true≢false (sym a ∙ token_no_ack s));
        idle = λ e. record { quiet = quiet_then s.index core (timed_out core) _ (timeout_quiet core plays.sound s.index) opened.quiet; waits = opened.waits };
      })
    where
      opened : Opened s (timed_out core) (still_plays s core plays) (no_wait (timed_out core) (out_token s)).core
      opened = idle_opens s (timed_out core) (still_plays s core plays)

  pub token_opens : (lent : Lent) → lends core lent ≡ true → Opened s core plays (the_core core lent (Packet (out_token s))).core
  token_opens lent l = subst (Opened s core plays) (packet_core core lent plays.sound l (out_token s)) step_opens
