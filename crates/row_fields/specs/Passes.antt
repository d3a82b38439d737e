-- What one pass over a row's fields does. The same pass is made twice: first it measures, then it writes.
use Rattle.std.specs.Prelude.{ℕ, Result, Ok, Err, ◌+◌, ◌-◌, min, Bool, true, false, cond, ◌&&◌, List, [], ◌∷◌, ◌++◌, leb, length, take, drop}
use Rattle.protocol.specs.Encoded as N
use Rattle.protocol.specs.Encoded.{Encoded}
use Rattle.protocol.specs.declared.data.FieldDescription.{FieldDescription}
use Rattle.protocol.specs.Bytes.{be, no_zero}
use Rattle.protocol.specs.Encode.{row_field_given}
use Rattle.protocol.specs.Fields.{item_bytes, most, signed_count}
use Rattle.protocol.specs.Kinds.{large, row_description, row_field, typed}
use Rattle.protocol.specs.WellFormed.{header}
use Rattle.writers.specs.Writing.{largest, verdict_of, write}
use Rattle.row_fields.specs.declared.Pass.{Pass}

-- a field's name stands in the run and, for the pass that measures, has no zero byte
unfoldable pub passed : Bool → FieldDescription → List ℕ → Bool
passed writing f run =
    leb (f.name.start + f.name.len) (length run)
    && cond writing true (no_zero (take f.name.len (drop f.name.start run)))

unfoldable pub named : FieldDescription → List ℕ → Bool
named f run = passed false f run

-- the numbers of a field, as the bytes of an item's atoms are joined
abbrev pub numbers : ℕ → ℕ → ℕ → ℕ → ℕ → ℕ → List ℕ
numbers table column type size modifier format = be 4 table ++ (be 2 column ++ (be 4 type ++ (be 2 size ++ (be 4 modifier ++ (be 2 format ++ [])))))

-- the place after a field; it stops at the largest number
unfoldable pub after : Pass → FieldDescription → ℕ
after c f = min (c.at + (f.name.len + 19)) largest

unfoldable pub step_pass : Pass → FieldDescription → List ℕ → Pass
step_pass c f run = record { at = after c f; ok = c.ok && passed c.writing f run; writing = c.writing }

-- a field is written where the pass writes, its name stands in the run and there is room
unfoldable pub step_out : Pass → FieldDescription → List ℕ → List ℕ → List ℕ
step_out c f run out =
    cond (c.writing && (passed c.writing f run && leb (after c f) (length out)))
    (write out c.at (item_bytes row_field (row_field_given f run)))
    out

unfoldable pub all_pass : List FieldDescription → List ℕ → Pass → Pass
all_pass [] run c = c
all_pass (f ∷ fs) run c = all_pass fs run (step_pass c f run)

unfoldable pub all_out : List FieldDescription → List ℕ → List ℕ → Pass → List ℕ
all_out [] run out c = out
all_out (f ∷ fs) run out c = all_out fs run (step_out c f run out) (step_pass c f run)

-- ---- the whole frame

-- the pass that measures, at its start
abbrev pub measuring_pass : Pass
measuring_pass = record { at = 0; ok = true; writing = false }

-- the answer to what was measured of `count` fields; six bytes of the length come before the fields
abbrev pub answered : Pass → ℕ → ℕ → Encoded
answered c count room = verdict_of (leb count (most signed_count) && c.ok) large (min (c.at + 6) largest) 1 room

-- the head and the count, where there is room for the frame
unfoldable pub begun : Encoded → ℕ → List ℕ → List ℕ
begun (N.Done n) count out = write (write out 0 (header typed row_description.tag (n - 5))) 5 (be 2 count)
begun (N.Refused number place) count out = out

-- that there is an answer, or a refusal, whatever it is
abbrev pub told : {E : Type 0} → Result ℕ E → Encoded
told (Ok n) = N.Done n
told (Err e) = N.Refused 0 0

-- the pass that writes, at its start
unfoldable pub writing_pass : Encoded → Pass
writing_pass (N.Done n) = record { at = 7; ok = true; writing = true }
writing_pass (N.Refused number place) = record { at = 7; ok = true; writing = false }
