-- The rows in front of the turn's are not the word's.
use Rattle.std.proofs.Common.{◌≡◌, map, drop}
use Rattle.script.specs.Words.{beside}
use Rattle.script.proofs.words.beside.Given as goal

abbrev pub invariant-loop-name : goal.invariant-loop-name
invariant-loop-name g l =
    beside l.word (map (λ row. (row.0.now, row.1)) l.rows) ≡ beside l.word (map (λ row. (row.0.now, row.1)) (drop l.name-index l.rows))
