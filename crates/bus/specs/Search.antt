-- Document 01, "A packet arrives": the search over the sixteen records stops at the match.
use Rattle.std.specs.Prelude.{ℕ, Bool, ◌&&◌, List, eqb, Option, Some, None}
use Rattle.laws.specs.Lists.{first_match}
use Rattle.state.specs.declared.Record.{Record}
use Rattle.state.specs.Ranges.{live}
use Rattle.bus.specs.declared.active.Direction.{Direction}
use Rattle.bus.specs.Active.{serves}

-- a live record for number and direction
unfoldable pub served_by : ℕ → Direction → Record → Bool
served_by number direction r =
    live r.condition && eqb r.endpoint.number number && serves direction r.endpoint.kind

-- the first of the records, or none: by `first_match`, which the must-fail edit `last_match` is of, and not by the library's `position`
unfoldable pub found_in : ℕ → Direction → List Record → Option ℕ
found_in number direction records = first_match (served_by number direction) Some None 0 records
