-- The walk tests and gathers one record a turn; what is gathered and what is still to come are the whole.
use Rattle.state.proofs.Survey.{Surveyed}
use Rattle.state.proofs.sound.is_sound.Given as goal

abbrev pub invariant-loop-r : goal.invariant-loop-r
invariant-loop-r l = Surveyed l.fn.core l.ends l.spans l.r-index
