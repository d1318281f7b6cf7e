-- None is found yet, and what is left of the records is what is left to search.
use Rattle.std.proofs.Common.{◌≡◌, drop, Some, None}
use Rattle.laws.specs.Lists.{first_match}
use Rattle.bus.specs.Search.{served_by, found_in}
use Rattle.bus.proofs.search.find.Given as goal

abbrev pub invariant-loop-i : goal.invariant-loop-i
invariant-loop-i l = (l.found ≡ None) × (found_in l.number l.direction l.r-items ≡ first_match (served_by l.number l.direction) Some None l.i (drop l.i l.r-items))
