-- The call script's table, row by row in its order, and behind it what `force` takes: what a line of each form asks for. A call's numbers are those
-- written, any from 0 to 4,294,967,295; that a fill or a show goes past the end is judged where the line is played.
use Rattle.std.specs.Prelude.{ℕ, Bool, Option, Some, None, List, [], ◌∷◌}
use Rattle.std.specs.Option.{option_map}
use Prim.Native.String.{String}
use Rattle.script.specs.Words.{words_of}
use Rattle.script.specs.Numbers.{number_of}
use Rattle.state.specs.declared.Condition.{Condition}
use Rattle.state.specs.declared.Condition.TheVariants.{Off, Normal, Halted}
use Rattle.state.specs.declared.Descriptor.TheVariants.{Unallocated, Armed}
use Rattle.state.specs.declared.Endpoint.{Endpoint}
use Rattle.state.specs.declared.Kind.{Kind}
use Rattle.state.specs.declared.Kind.TheVariants as kind_is
use Rattle.state.specs.declared.Transfer.{Transfer}
use Rattle.state.specs.declared.Transfer.TheVariants as transfer_is
use Rattle.state.specs.declared.Wait.TheVariants as wait_is
use Rattle.calls.specs.declared.line.Line.{Line}
use Rattle.calls.specs.declared.line.Line.TheVariants.{Firmware, Packet, Timeout, Encode, Decode, Fill, Show, Reply, State, Force}
use Rattle.calls.specs.declared.line.Line.TheVariants as line-is
use Rattle.calls.specs.declared.line.Call.TheVariants as call
use Rattle.calls.specs.declared.line.Forced.TheVariants as forced
use Rattle.calls.specs.declared.line.Field.{Field}
use Rattle.calls.specs.declared.line.Field.TheVariants as field
use Rattle.calls.specs.declared.word.Verb.{Verb}
use Rattle.calls.specs.declared.word.Verb.TheVariants as verb
use Rattle.calls.specs.declared.word.What.{What}
use Rattle.calls.specs.declared.word.What.TheVariants as what
use Rattle.calls.specs.declared.word.Waiting.{Waiting}
use Rattle.calls.specs.declared.word.Waiting.TheVariants as waiting
use Rattle.calls.specs.declared.word.FieldName.{FieldName}
use Rattle.calls.specs.declared.word.FieldName.TheVariants as name
use Rattle.calls.specs.Forms.{Form, listed, at_most, bit_of, record_events_of, system_events_of, condition_of, kind_of, transfer_of, by, ends, ends_or, name_or, bytes, number, up_to, bit, speed, condition, kind, transfer, stage}

-- ---- the table

-- `start SPEED M`
abbrev pub start_form : Form
start_form = speed λ s. number λ m. ends (Firmware (call.Start s m))

-- what configure makes of a record
abbrev pub endpoint : Kind → Transfer → ℕ → ℕ → Endpoint
endpoint k t n max = record { kind = k; transfer = t; number = n; maximum = max }

-- `KIND TYPE NUMBER MAX`, behind `configure R COND`
abbrev pub live_form : ℕ → Condition → Form
live_form r c = kind λ k. transfer λ t. number λ n. number λ max. ends (Firmware (call.Configure r c (endpoint k t n max)))

-- `configure R off`, whose other arguments are zero, and `configure R COND KIND TYPE NUMBER MAX`; COND `normal`, `halted`
abbrev pub configured : ℕ → Condition → Form
configured r Off = ends (Firmware (call.Configure r Off (endpoint kind_is.Control transfer_is.Control 0 0)))
configured r Normal = live_form r Normal
configured r Halted = live_form r Halted

abbrev pub configure_form : Form
configure_form = number λ r. condition λ c. configured r c

-- `arm R B BASE LENGTH`
abbrev pub arm_form : Form
arm_form = number λ r. number λ b. number λ base. number λ l. ends (Firmware (call.Arm r b base l))

-- `disarm R B`
abbrev pub disarm_form : Form
disarm_form = number λ r. number λ b. ends (Firmware (call.Disarm r b))

-- `halt R`
abbrev pub halt_form : Form
halt_form = number λ r. ends (Firmware (call.Halt r))

-- `clear R`
abbrev pub clear_form : Form
clear_form = number λ r. ends (Firmware (call.Clear r))

-- `address A`
abbrev pub address_form : Form
address_form = number λ a. ends (Firmware (call.Address a))

-- `events R`, and `events` alone
abbrev pub events_form : Form
events_form = ends_or (Firmware call.SystemEvents) (number λ r. ends (Firmware (call.RecordEvents r)))

-- `reset SPEED`
abbrev pub reset_form : Form
reset_form = speed λ s. ends (Firmware (call.Reset s))

-- `packet BYTES`
abbrev pub packet_form : Bool → Form
packet_form given = bytes given (ends Packet)

-- `timeout`
abbrev pub timeout_form : Form
timeout_form = ends Timeout

-- `frame N`
abbrev pub frame_form : Form
frame_form = number λ n. ends (line-is.Frame n)

-- `encode PID BYTES`
abbrev pub encode_form : Bool → Form
encode_form given = number λ pid. bytes given (ends (Encode pid))

-- `decode BYTES`
abbrev pub decode_form : Bool → Form
decode_form given = bytes given (ends Decode)

-- `lend MEMORY REPLY`, at most 131,072 and 1,040; `lend default` goes back
abbrev pub lend_form : Form
lend_form = name_or "default" (ends (line-is.Lend None)) (up_to 131072 λ m. up_to 1040 λ r. ends (line-is.Lend (Some (record { memory = m; reply = r }))))

-- `fill BASE BYTES`
abbrev pub fill_form : Bool → Form
fill_form given = number λ base. bytes given (ends (Fill base))

-- `show BASE LENGTH`, LENGTH at most 4,096
abbrev pub show_form : Form
show_form = number λ base. up_to 4096 λ l. ends (Show base l)

-- `reply LENGTH`, at most 1,040
abbrev pub reply_form : Form
reply_form = up_to 1040 λ l. ends (Reply l)

-- `state`
abbrev pub state_form : Form
state_form = ends State

-- ---- what `force` takes

-- `memory N`: any number
abbrev pub force_memory : Form
force_memory = number λ n. ends (Force (forced.Memory n))

-- `address N`, 0 to 255
abbrev pub force_address : Form
force_address = up_to 255 λ n. ends (Force (forced.Address n))

-- `events N`, a sum of the named events' bits
abbrev pub force_events : Form
force_events = by system_events_of λ e. ends (Force (forced.Events e))

-- `wait data R setup`, `wait data R out`, with R 0 to 255
abbrev pub force_wait_data : Form
force_wait_data = up_to 255 λ r. stage λ s. ends (Force (forced.Wait (wait_is.Data r s)))

-- `wait ack R B LENGTH`, with R 0 to 255 and B 0 or 1
abbrev pub force_wait_ack : Form
force_wait_ack = up_to 255 λ r. bit λ b. number λ l. ends (Force (forced.Wait (wait_is.Acknowledge r b l)))

-- `wait nothing`, `wait data R ..` and `wait ack ..`
abbrev pub waits : List (String × Waiting)
waits =
    ("nothing", waiting.Nothing)
    ∷ ("data", waiting.Data)
    ∷ ("ack", waiting.Acknowledge)
    ∷ []

unfoldable pub waiting_of : List ℕ → Option Waiting
waiting_of word = listed word waits

abbrev pub waited : Waiting → Form
waited waiting.Nothing = ends (Force (forced.Wait wait_is.Nothing))
waited waiting.Data = force_wait_data
waited waiting.Acknowledge = force_wait_ack

abbrev pub force_wait : Form
force_wait = by waiting_of waited

-- FIELD
abbrev pub fields : List (String × FieldName)
fields =
    ("condition", name.Condition)
    ∷ ("kind", name.Kind)
    ∷ ("type", name.Type)
    ∷ ("number", name.Number)
    ∷ ("max", name.Maximum)
    ∷ ("next", name.Next)
    ∷ ("events", name.Events)
    ∷ ("out", name.OutToggle)
    ∷ ("in", name.InToggle)
    ∷ []

unfoldable pub field_of : List ℕ → Option FieldName
field_of word = listed word fields

-- VALUE, behind FIELD: `condition`: `off`, `normal`, `halted`; `kind` and `type`: the words of KIND and TYPE; `number`: 0 to 255; `max`: any number;
-- `next`: 0 or 1; `events`: a sum of the named events' bits; `out` and `in`, the toggles: 0 for DATA0, 1 for DATA1
abbrev pub set_of : FieldName → List ℕ → Option Field
set_of name.Condition word = option_map field.Condition (condition_of word)
set_of name.Kind word = option_map field.Kind (kind_of word)
set_of name.Type word = option_map field.Type (transfer_of word)
set_of name.Number word = option_map field.Number (at_most 255 word)
set_of name.Maximum word = option_map field.Maximum (number_of word)
set_of name.Next word = option_map field.Next (bit_of word)
set_of name.Events word = option_map field.Events (record_events_of word)
set_of name.OutToggle word = option_map field.OutToggle (bit_of word)
set_of name.InToggle word = option_map field.InToggle (bit_of word)

-- `record R FIELD VALUE`, with R 0 to 15
abbrev pub force_record : Form
force_record = up_to 15 λ r. by field_of λ f. by (set_of f) λ v. ends (Force (forced.Record r v))

-- `BASE LENGTH DONE USED`, behind `buffer R B`, with USED 0 or 1
abbrev pub armed_form : ℕ → Bool → Form
armed_form r b = number λ base. number λ l. number λ done. bit λ used. ends (Force (forced.Buffer r b (Armed base l done used)))

-- `buffer R B off`, and `buffer R B BASE LENGTH DONE USED`, with R 0 to 15 and B 0 or 1
abbrev pub force_buffer : Form
force_buffer = up_to 15 λ r. bit λ b. name_or "off" (ends (Force (forced.Buffer r b Unallocated))) (armed_form r b)

-- `frame SEEN NUMBER REPEATS`: 0 or 1, 0 to 65,535, 0 to 255
abbrev pub force_frame : Form
force_frame = bit λ s. up_to 65535 λ n. up_to 255 λ r. ends (Force (forced.Frame (record { seen = s; number = n; repeats = r })))

-- WHAT
abbrev pub whats : List (String × What)
whats =
    ("memory", what.Memory)
    ∷ ("address", what.Address)
    ∷ ("events", what.Events)
    ∷ ("wait", what.Wait)
    ∷ ("record", what.Record)
    ∷ ("buffer", what.Buffer)
    ∷ ("frame", what.Frame)
    ∷ []

unfoldable pub what_of : List ℕ → Option What
what_of word = listed word whats

abbrev pub forced_form : What → Form
forced_form what.Memory = force_memory
forced_form what.Address = force_address
forced_form what.Events = force_events
forced_form what.Wait = force_wait
forced_form what.Record = force_record
forced_form what.Buffer = force_buffer
forced_form what.Frame = force_frame

-- `force WHAT ..`
abbrev pub force_form : Form
force_form = by what_of forced_form

-- ---- a line

-- the first words, in the table's order
abbrev pub verbs : List (String × Verb)
verbs =
    ("start", verb.Start)
    ∷ ("configure", verb.Configure)
    ∷ ("arm", verb.Arm)
    ∷ ("disarm", verb.Disarm)
    ∷ ("halt", verb.Halt)
    ∷ ("clear", verb.Clear)
    ∷ ("address", verb.Address)
    ∷ ("events", verb.Events)
    ∷ ("reset", verb.Reset)
    ∷ ("packet", verb.Packet)
    ∷ ("timeout", verb.Timeout)
    ∷ ("frame", verb.Frame)
    ∷ ("encode", verb.Encode)
    ∷ ("decode", verb.Decode)
    ∷ ("lend", verb.Lend)
    ∷ ("fill", verb.Fill)
    ∷ ("show", verb.Show)
    ∷ ("reply", verb.Reply)
    ∷ ("state", verb.State)
    ∷ ("force", verb.Force)
    ∷ []

unfoldable pub verb_of : List ℕ → Option Verb
verb_of word = listed word verbs

-- the form behind each
abbrev pub form_of : Bool → Verb → Form
form_of given verb.Start = start_form
form_of given verb.Configure = configure_form
form_of given verb.Arm = arm_form
form_of given verb.Disarm = disarm_form
form_of given verb.Halt = halt_form
form_of given verb.Clear = clear_form
form_of given verb.Address = address_form
form_of given verb.Events = events_form
form_of given verb.Reset = reset_form
form_of given verb.Packet = packet_form given
form_of given verb.Timeout = timeout_form
form_of given verb.Frame = frame_form
form_of given verb.Encode = encode_form given
form_of given verb.Decode = decode_form given
form_of given verb.Lend = lend_form
form_of given verb.Fill = fill_form given
form_of given verb.Show = show_form
form_of given verb.Reply = reply_form
form_of given verb.State = state_form
form_of given verb.Force = force_form

-- what a line asks for, where it is given whether its last word is bytes; a line that is none of the forms asks for nothing
unfoldable pub line_of : List ℕ → Bool → Option Line
line_of line given = by verb_of (form_of given) 0 (words_of line)
