-- Document 01, "State": what a record serves.
use Rattle.std.specs.Prelude.{Bool, true, false, not, ◌&&◌, ◌||◌, cond, List, [], ◌∷◌, eqb}
use Rattle.laws.specs.Lists.{gather}
use Rattle.state.specs.declared.Kind.{Kind}
use Rattle.state.specs.declared.Kind.TheVariants as kind
use Rattle.state.specs.declared.Endpoint.{Endpoint}
use Rattle.state.specs.declared.Record.{Record}
use Rattle.state.specs.declared.served.End.{End}
use Rattle.state.specs.Ranges.{live}

-- the directions that a kind serves; control serves both
abbrev pub serves_out : Kind → Bool
serves_out kind.Control = true
serves_out kind.In = false
serves_out kind.Out = true

abbrev pub serves_in : Kind → Bool
serves_in kind.Control = true
serves_in kind.In = true
serves_in kind.Out = false

abbrev pub end_of : Endpoint → End
end_of e = record { number = e.number; kind = e.kind }

-- one number in one direction
abbrev pub same_end : End → End → Bool
same_end a b =
    eqb a.number b.number
    && (serves_out a.kind && serves_out b.kind || serves_in a.kind && serves_in b.kind)

-- two records can stand beside each other: not both are live, or they serve no number in one direction
unfoldable pub beside : Record → Record → Bool
beside r s = not (live r.condition && live s.condition && same_end (end_of r.endpoint) (end_of s.endpoint))

-- what the live records serve, in their order
abbrev pub ends_of : Record → List End
ends_of r = cond (live r.condition) (end_of r.endpoint ∷ []) []

abbrev pub ends : List Record → List End
ends records = gather ends_of records

abbrev pub elsewhere : End → End → Bool
elsewhere a b = not (same_end a b)
