-- Document 01, "The night desk's listing": the fixed set-up.
use Rattle.std.specs.Prelude.{ℕ, false, ◌∷◌, replicate}
use Rattle.state.specs.declared.Speed.TheVariants.{Full}
use Rattle.state.specs.declared.Condition.TheVariants.{Normal}
use Rattle.state.specs.declared.Kind.{Kind}
use Rattle.state.specs.declared.Kind.TheVariants.{In, Out}
use Rattle.state.specs.declared.Transfer.TheVariants.{Bulk}
use Rattle.state.specs.declared.Endpoint.{Endpoint}
use Rattle.state.specs.declared.Descriptor.TheVariants.{Armed}
use Rattle.state.specs.declared.Record.{Record}
use Rattle.state.specs.declared.Wait.TheVariants.{Nothing}
use Rattle.state.specs.declared.Core.{Core}
use Rattle.state.specs.Update.{no_system_events, fresh, off_record, with_buffer}

-- bulk, number 1, maximum 8
abbrev pub bulk : Kind → Endpoint
bulk kind = record { kind = kind; transfer = Bulk; number = 1; maximum = 8 }

-- with buffer 0 armed, of which nothing is done
abbrev pub ready : Kind → ℕ → ℕ → Record
ready kind base length = with_buffer (fresh Normal (bulk kind)) false (Armed base length 0 false)

-- full speed, address 1, M 256; record 0 is OUT with buffer 0 at 16 length 8, record 1 is IN with buffer 0 at 32 length 1
unfoldable pub set_up : Core
set_up =
    record {
      memory_size = 256;
      address = 1;
      speed = Full;
      events = no_system_events;
      records = ready Out 16 8 ∷ ready In 32 1 ∷ replicate 14 off_record;
      wait = Nothing;
    }
