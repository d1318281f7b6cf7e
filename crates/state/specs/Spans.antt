-- Document 01, "State": the spans of armed descriptors.
use Rattle.std.specs.Prelude.{ℕ, ◌+◌, ◌<◌, min, max, Bool, not, List, [], ◌∷◌, ◌++◌, ltb}
use Rattle.laws.specs.Lists.{gather}
use Rattle.state.specs.declared.Descriptor.{Descriptor}
use Rattle.state.specs.declared.Descriptor.TheVariants.{Unallocated, Armed}
use Rattle.state.specs.declared.Record.{Record}
use Rattle.state.specs.declared.spans.Span.{Span}

-- a span is the length bytes from base
abbrev pub span_from : ℕ → ℕ → Span
span_from base length = record { base = base; end = base + length }

-- a byte of both; a span of length 0 shares none
unfoldable pub share_byte : Span → Span → Bool
share_byte a b = ltb (max a.base b.base) (min a.end b.end)

abbrev pub apart : Span → Span → Bool
apart a b = not (share_byte a b)

-- the span of a descriptor, if it is armed, used or not
abbrev pub spans_in : Descriptor → List Span
spans_in Unallocated = []
spans_in (Armed base length done used) = span_from base length ∷ []

-- the end of the span fits 32 bits
abbrev pub Within : Descriptor → Type 0
Within Unallocated = Unit {0}
Within (Armed base length done used) = base + length < 4294967296

abbrev pub spans_of : Record → List Span
spans_of r = spans_in r.first ++ spans_in r.second

-- the armed spans in the order of their slots, 2 · record + buffer
abbrev pub armed_spans : List Record → List Span
armed_spans records = gather spans_of records
