-- Of each case of a cursor's step: what was read and the next place, or the refusal's number and place (docs/FORMAT.md 5).
use Rattle.std.specs.Prelude.{ℕ, Result, Ok, Err}
use Rattle.std.specs.Prelude.{Option as Maybe, Some, None}
use Rattle.std.proofs.Math.Option.{Option, some, none}
use Rattle.protocol.specs.declared.List.{List as ListSlot}
use Rattle.protocol.specs.declared.Span.{Span}
use Rattle.protocol.specs.declared.refusal.Refused.{Refused}
use Rattle.protocol.specs.Reading.{Read, got, bad}
use Rattle.protocol.specs.Refusals.{cut}
use Rattle.protocol.specs.Told.{number_of}
use Rattle.codec.specs.declared.Cursor.{Cursor}

-- a step that began at p and can only be cut: a byte, a number or a string
abbrev pub step_read : {X : Type 0} → ℕ → Maybe (X × Cursor) → Read X
step_read p (Some (x, c)) = got x c.at
step_read p None = bad cut p

-- NULL is none
abbrev pub nullable : Maybe Span → Option Span
nullable (Some s) = some s
nullable None = none

abbrev pub value_read : Result (Maybe Span × Cursor) Refused → Read (Option Span)
value_read (Ok (v, c)) = got (nullable v) c.at
value_read (Err r) = bad (number_of r.refusal) r.place

abbrev pub listed_read : Result (ListSlot × Cursor) Refused → Read ListSlot
listed_read (Ok (l, c)) = got l c.at
listed_read (Err r) = bad (number_of r.refusal) r.place

abbrev pub passed_read : Result Cursor Refused → Read (Unit {0})
passed_read (Ok c) = got tt c.at
passed_read (Err r) = bad (number_of r.refusal) r.place
