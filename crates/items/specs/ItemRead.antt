-- Of each case of an item's step: what was read and the next place, or the refusal's number and place (docs/FORMAT.md 5).
use Rattle.std.specs.Prelude.{ℕ, ◌+◌, ◌-◌, ◌*◌, ◌/◌, cond, ltb, Result, Ok, Err}
use Rattle.protocol.specs.declared.Element.{Element}
use Rattle.protocol.specs.declared.Span.{Span}
use Rattle.protocol.specs.declared.data.FieldDescription.{FieldDescription}
use Rattle.protocol.specs.declared.refusal.Refused.{Refused}
use Rattle.protocol.specs.Each.{Each}
use Rattle.protocol.specs.Fields.{AtomSlot}
use Rattle.protocol.specs.Kinds.{error_field, pair}
use Rattle.protocol.specs.Reading.{Read, got, bad}
use Rattle.protocol.specs.Refusals.{cut}
use Rattle.protocol.specs.Told.{number_of}
use Rattle.codec.specs.declared.Cursor.{Cursor}

abbrev pub field_read : Result (FieldDescription × Cursor) Refused → Read FieldDescription
field_read (Ok (d, c)) = got d c.at
field_read (Err r) = bad (number_of r.refusal) r.place

abbrev pub error_read : Result ((ℕ × Span) × Cursor) Refused → Read (Each AtomSlot error_field.atoms)
error_read (Ok ((code, string), c)) = got (code, (string, tt)) c.at
error_read (Err r) = bad (number_of r.refusal) r.place

abbrev pub pair_read : Result ((Span × Span) × Cursor) Refused → Read (Each AtomSlot pair.atoms)
pair_read (Ok ((name, value), c)) = got (name, (value, tt)) c.at
pair_read (Err r) = bad (number_of r.refusal) r.place

-- any item, as an element
abbrev pub element_read : Result (Element × Cursor) Refused → Read Element
element_read (Ok (e, c)) = got e c.at
element_read (Err r) = bad (number_of r.refusal) r.place

-- past n items of w bytes each, where so many bytes are there; the first that is not whole is cut
unfoldable pub pass_fixed : ℕ → ℕ → ℕ → ℕ → Read (Unit {0})
pass_fixed w n len p = cond (ltb ((len - p) / w) n) (bad cut (p + (len - p) / w * w)) (got tt (p + n * w))
