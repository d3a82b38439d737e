-- `host_layout::shapes::execute` meets its contract: its number's bits are laid out.
use mathlib.Core.Path.{refl}
use mir.Syntax.{w32}
use borrow.Author.Rules.{rules}
use Rattle.protocol.specs.Kinds.{execute}
use Rattle.protocol.specs.Views.{view}
use Rattle.host_layout.specs.LaidOut.{numbers_of}
use Rattle.host_layout.proofs.Signs.{passed}
use Rattle.host_layout.proofs.shapes.execute.Goals as goal

pub returns : goal.returns
unfolding numbers_of view execute
returns c = rw (c.three_numbers.ensures, ← passed w32 c.args.m.max_rows (search rules) c.bits-max_rows.ensures) refl
