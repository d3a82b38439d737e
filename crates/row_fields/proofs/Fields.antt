-- One field: its name's length, and its turn in a pass.
use Prim.Native.Nat.{ℕ, ◌+◌, ◌≤◌, ◌<◌}
use mathlib.Core.Bool.{Bool, true, false, cond, ◌&&◌, and_assoc}
use mathlib.Core.List.{List, [], ◌∷◌, ◌++◌}
use mathlib.Core.Path.{◌≡◌, refl, ◌∙◌, sym}
use native.Mathlib.Omega.{arith}
use borrow.Author.Tests.{leb-true}
use lib.Dec.{leb}
use lib.ListN.{length, take, drop, length-take, length-drop}
use Rattle.protocol.specs.declared.data.FieldDescription.{FieldDescription}
use Rattle.protocol.specs.Bytes.{bits_of, no_zero}
use Rattle.protocol.specs.Each.{bytes_of_each}
use Rattle.protocol.specs.Encode.{row_field_given}
use Rattle.protocol.specs.Fields.{atom_bytes, item_bytes}
use Rattle.protocol.specs.Kinds.{row_field}
use Rattle.writers.specs.Writing.{largest, write, Wrote}
use Rattle.writers.proofs.Laws.{◌then◌, wrote_as}
use Rattle.protocol.proofs.Basics.{and_left, and_right}
use Rattle.row_fields.specs.declared.Pass.{Pass}
use Rattle.row_fields.specs.Passes.{passed, numbers, after, step_pass, step_out}

pub part_length : (xs : List ℕ) (s n : ℕ) → s + n ≤ length xs → length (take n (drop s xs)) ≡ n
part_length xs s n h = omega (arith, length-take n (drop s xs), length-drop s xs)

-- a field is written: its name and the numbers, the signed ones as their bits
pub fielded : {d mid left : List ℕ} {p at next table column size modifier format : ℕ} (f : FieldDescription) (run : List ℕ)
    → table ≡ bits_of 4 f.table_id → column ≡ bits_of 2 f.column_id → size ≡ bits_of 2 f.type_size
    → modifier ≡ bits_of 4 f.type_modifier → format ≡ bits_of 2 f.format_code
    → Wrote d p (take f.name.len (drop f.name.start run) ++ 0 ∷ []) (f.name.len + 1) mid at
    → Wrote mid at (numbers table column f.type_id size modifier format) 18 left next
    → Wrote d p (item_bytes row_field (row_field_given f run)) (f.name.len + 19) left next
unfolding item_bytes bytes_of_each atom_bytes
fielded f run table column size modifier format name rest =
    wrote_as (name then rw (table, column, size, modifier, format) at rest) refl (omega arith)

pub inside : (writing : Bool) (f : FieldDescription) (run : List ℕ) → passed writing f run ≡ true → f.name.start + f.name.len ≤ length run
unfolding passed
inside writing f run e = leb-true _ _ (and_left _ (cond writing true (no_zero (take f.name.len (drop f.name.start run)))) e)

-- what the code has found of a field: whether its name can be written, and the place after it
module _ (c : Pass) (f : FieldDescription) (run : List ℕ) {able : Bool} {next : ℕ} (same : able ≡ passed c.writing f run) (place : next ≡ after c f) where
  pub stepped : record { at = next; ok = c.ok && able; writing = c.writing } ≡ step_pass c f run
  unfolding step_pass
  stepped = rw (same, place) refl

  -- the test, as the code makes it, and in the definition's words
  test : (out : List ℕ) → c.writing && (passed c.writing f run && leb (after c f) (length out)) ≡ (c.writing && able) && leb next (length out)
  test out = rw (← same, ← place) (sym (and_assoc c.writing able (leb next (length out))))

  pub roomy : (out : List ℕ) → (c.writing && able) && leb next (length out) ≡ true → length out < largest
      → (f.name.start + f.name.len ≤ length run) × (c.at + (f.name.len + 19) ≤ length out)
  unfolding after
  roomy out t small =
      let n : passed c.writing f run ≡ true = sym same ∙ and_right c.writing (and_left (c.writing && able) (leb next (length out)) t) in
      let l : next ≤ length out = leb-true _ _ (and_right (c.writing && able) t) in
      (inside c.writing f run n, omega (arith, l, place, small))

  pub put : (out : List ℕ) {left : List ℕ} → (c.writing && able) && leb next (length out) ≡ true → left ≡ write out c.at (item_bytes row_field (row_field_given f run)) → left ≡ step_out c f run out
  unfolding step_out
  put out t e = rw (test out ∙ t) e

  pub unwritten : (out : List ℕ) → (c.writing && able) && leb next (length out) ≡ false → out ≡ step_out c f run out
  unfolding step_out
  unwritten out t = rw (test out ∙ t) refl

pub kept : (c : Pass) (f : FieldDescription) (run out : List ℕ) → c.writing ≡ false → out ≡ step_out c f run out
unfolding step_out
kept c f run out w = rw w refl
