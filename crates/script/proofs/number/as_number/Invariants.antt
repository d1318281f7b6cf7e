-- The number so far, with what is left of the word behind it, is the word's.
use Rattle.std.proofs.Common.{◌≡◌, ◌≤◌, drop}
use Rattle.script.specs.Numbers.{largest, number_from}
use Rattle.script.proofs.number.as_number.Given as goal

abbrev pub invariant-loop-c : goal.invariant-loop-c
invariant-loop-c l = (l.value ≤ largest) × (number_from 0 l.word ≡ number_from l.value (drop l.c-index l.word))
