-- `row_fields::put_field` meets its contract.
use Prim.Native.Nat.{◌+◌, ◌-◌}
use mathlib.Core.List.{[], ◌∷◌, ◌++◌}
use mathlib.Core.Path.{◌≡◌, refl}
use native.Mathlib.Omega.{arith}
use lib.ListN.{length, take, drop}
use mir.Syntax.{w16, w32}
use Rattle.writers.specs.Writing.{Wrote}
use Rattle.writers.proofs.Laws.{wrote_as}
use Rattle.writers.proofs.Signs.{bits_of_lem}
use Rattle.row_fields.proofs.Fields.{fielded, part_length}
use Rattle.row_fields.proofs.put_field.Goals as goal

pub returns : goal.returns
returns c = let a = c.args in
    let f = a.f.now in
    let part = take f.name.len (drop f.name.start a.run.now) in
    let long : length part ≡ f.name.len = part_length a.run.now f.name.start f.name.len (omega arith) in
    let e : f.name.start + f.name.len - f.name.start ≡ f.name.len = omega arith in
    let name : Wrote a.out.now a.at (part ++ 0 ∷ []) (length part + 1) c.put_text-at.new.out c.put_text-at.result = rw e at (c.put_text-at.ensures.fits refl (rw e (omega arith))) in
    let table = bits_of_lem w32 4 f.table_id (record { sfits = omega arith }) c.bits32-table.ensures in
    let column = bits_of_lem w16 2 f.column_id (record { sfits = omega arith }) c.bits16-column.ensures in
    let size = bits_of_lem w16 2 f.type_size (record { sfits = omega arith }) c.bits16-size.ensures in
    let modifier = bits_of_lem w32 4 f.type_modifier (record { sfits = omega arith }) c.bits32-modifier.ensures in
    let format = bits_of_lem w16 2 f.format_code (record { sfits = omega arith }) c.bits16-format.ensures in
    fielded f a.run.now table column size modifier format (wrote_as name refl (omega arith)) (c.put_pairs.ensures.fits refl (omega (arith, name.place, name.bytes)))
