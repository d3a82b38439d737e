-- `host_parts::elements::field` meets its contract: its numbers' bits are laid out.
use mathlib.Core.Path.{refl}
use mir.Syntax.{w16, w32}
use Rattle.host_layout.proofs.Signs.{passed}
use Rattle.host_parts.proofs.elements.field.Goals as goal

pub returns : goal.returns
returns c = let d = c.args.d in
    rw (
      ← passed w32 d.table_id c.struct_told-1.given.1.0.1 c.bits-table_id.ensures,
      ← passed w16 d.column_id c.struct_told-2-1.given.1.1.0.1 c.half-column_id.ensures,
      ← passed w16 d.type_size c.struct_told-3-1.given.1.1.1.1.0.1 c.half-type_size.ensures,
      ← passed w32 d.type_modifier c.struct_told-4-1.given.1.1.1.1.1.0.1 c.bits-type_modifier.ensures,
      ← passed w16 d.format_code c.struct_told-5-1.given.1.1.1.1.1.1.0.1 c.half-format_code.ensures,
    ) refl
