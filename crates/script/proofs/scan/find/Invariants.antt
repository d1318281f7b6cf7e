-- In front of i the byte does not stand, so its place is that in what is left.
use Rattle.std.proofs.Common.{◌≡◌, ◌+◌, ◌≤◌, min, max, length, take, drop}
use Rattle.script.specs.Scan.{index_of}
use Rattle.script.proofs.scan.find.Given as goal

abbrev pub invariant-loop-i : goal.invariant-loop-i
invariant-loop-i l =
    (l.i ≤ max l.from (min l.to (length l.text)))
    × (l.from + index_of l.byte (drop l.from (take l.to l.text)) ≡ l.i + index_of l.byte (drop l.i (take l.to l.text)))
