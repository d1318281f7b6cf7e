-- Each turn takes the characters in front of the next space, and the space; at the end the last word goes on with the rest.
use Rattle.std.proofs.Common.{rules, tests, ◌+◌, eqb}
use Rattle.std.proofs.lemmas.Iterator.{YieldsList-from_slice}
use Rattle.std.proofs.lemmas.Iterator.Search.{position_from_yields_List}
use Rattle.std.proofs.lemmas.List.{take_rest}
use Rattle.script.proofs.Appending.{front_of, word_of}
use Rattle.script.proofs.Parting.{run_unspaced, run_and_space, run_alone}
use Rattle.script.proofs.Standing.{holds, run_parted, word_said}
use Rattle.script.proofs.intake.taken.Goals as goal

pub loop-end-preserved : goal.loop-end-preserved
loop-end-preserved c =
    let rest = c.loop-end.rest.now in
    let end = c.in-Some.end in
    let found = position_from_yields_List (λ x. eqb x 32) _ _ _ c.position.ensures.ran (YieldsList-from_slice _ c.iter.ensures.rest) (λ x b q k. search (rules, tests)) in
    λ line h.
    let before = c.loop-end.invariant line h in
    let said = c.spoken.ensures (front_of before.0) (word_of before.0) (holds before.0 _ _ _ before.2) in (
      _,
      rw (take_rest rest (end + 1), run_and_space rest _ found end c.in-Some.is before.0) before.1,
      run_parted before.0 _ _ _ before.2 _ (run_unspaced rest _ found end c.in-Some.is) _ _ (c.parted-now.ensures.begun _) (c.parted-now.ensures.held _ _ said),
    )

pub returns : goal.returns
returns c =
    let rest = c.loop-end.rest.now in
    let found = position_from_yields_List (λ x. eqb x 32) _ _ _ c.position.ensures.ran (YieldsList-from_slice _ c.iter.ensures.rest) (λ x b q k. search (rules, tests)) in
    λ line h.
    let before = c.loop-end.invariant line h in
    rw before.1 at
    (word_said before.0 _ _ _ before.2 rest (run_alone rest _ found c.in_default.not-Some) _ _ _ _
    (c.spoken-2.ensures (front_of before.0) (word_of before.0) (holds before.0 _ _ _ before.2))
    (c.read.ensures (word_of before.0) before.2.bytes))
