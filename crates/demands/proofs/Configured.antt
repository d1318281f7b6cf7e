-- An accepted configure leaves the endpoint as demand 3 begins with it: in its place, at DATA0, and not waited on. Assumes nothing.
use Prim.Native.Nat.{ℕ, ◌<◌}
use native.Mathlib.Omega.{arith}
use mathlib.Core.Path.{◌≡◌, refl, sym, ◌∙◌, ap, subst}
use mathlib.Core.Bool.{true, ◌||◌}
use mathlib.Core.List.{List}
use lib.Dec.{leb}
use lib.ListN.{length}
use borrow.Author.Tests.{ltb-false}
use Rattle.laws.specs.Lists.{all}
use Rattle.laws.proofs.Bools.{neither}
use Rattle.laws.proofs.First.{Passed}
use Rattle.refusals.proofs.Judging.{judged_when, number_passed, number_whenever}
use Rattle.state.specs.declared.Condition.TheVariants.{Normal}
use Rattle.state.specs.declared.Kind.TheVariants as kind
use Rattle.state.specs.declared.Endpoint.{Endpoint}
use Rattle.state.specs.declared.Record.{Record}
use Rattle.state.specs.declared.Core.{Core}
use Rattle.state.specs.Update.{fresh, record_at, with_record}
use Rattle.state.specs.Ranges.{is_armed}
use Rattle.state.specs.Sound.{Sound}
use Rattle.state.proofs.Updates.{record_given}
use Rattle.firmware.specs.Answers.{settled}
use Rattle.firmware.specs.Records.{waits_on, in_use, configure_tests, configure_of}
use Rattle.firmware.proofs.Refusals.{configure_judges}
use Rattle.demands.specs.Behaviour.{Lent, Configure, refusal, the_core}
use Rattle.demands.specs.Host.{Setting}
use Rattle.demands.specs.Demand3.{Fresh}
use Rattle.demands.proofs.Rules.{call_sound, by_number_same}

-- the host of a record that was configured so
abbrev pub host_of : Core → ℕ → Endpoint → List (List ℕ) → Setting
host_of core i e payloads = record { index = i; address = core.address; endpoint = e.number; payloads = payloads }

module _ (core : Core) (lent : Lent) (i : ℕ) (e : Endpoint) (payloads : List (List ℕ)) where
  pub configured_fresh : e.kind ≡ kind.Out → Sound core → refusal (the_core core lent (Configure i Normal e)).answer ≡ 0 → all (λ x. leb (length x) e.maximum) payloads ≡ true → Fresh (host_of core i e payloads) (the_core core lent (Configure i Normal e)).core
  unfolding configure_of settled in_use
  configured_fresh out w done none_above = subst (Fresh (host_of core i e payloads)) (sym left) begins
    where
      tests : Passed (configure_tests core i Normal e)
      tests =
          number_passed (configure_tests core i Normal e)
          (number_whenever (configure_tests core i Normal e) 0 ((configure_judges core i Normal e).only_when 0 (sym (by_number_same (configure_of core i Normal e).answer) ∙ done)))

      left : (the_core core lent (Configure i Normal e)).core ≡ with_record core i (fresh Normal e)
      left = rw (judged_when (configure_tests core i Normal e) tests)

      index : i < 16
      index = omega (arith, ltb-false 15 i tests.1.0)

      now : record_at (with_record core i (fresh Normal e)) i ≡ fresh Normal e
      now = record_given core i (fresh Normal e) (omega (arith, index, w.sixteen))

      begins : Fresh (host_of core i e payloads) (with_record core i (fresh Normal e))
      begins =
          record {
            plays =
                record {
                  sound = subst Sound left (call_sound core lent (Configure i Normal e) w);
                  index_within = index;
                  same_address = refl;
                  is_normal = ap (λ (r : Record). r.condition) now;
                  is_out = ap (λ (r : Record). r.endpoint.kind) now ∙ out;
                  same_number = ap (λ (r : Record). r.endpoint.number) now;
                  none_above = subst (λ (r : Record). all (λ x. leb (length x) r.endpoint.maximum) payloads ≡ true) (sym now) none_above;
                };
            unwaited = (neither (is_armed (record_at core i).first || is_armed (record_at core i).second) (waits_on core.wait i) tests.1.1.0).1;
            at_data0 = ap (λ (r : Record). r.toggles.out_side) now;
          }
