-- `host_parts::elements::laid_out` meets its contract: a format's bits are those of its number.
use mir.Syntax.{w16}
use Rattle.host_layout.proofs.Signs.{passed}
use borrow.Author.Rules.{rules}
use Rattle.host_parts.proofs.elements.laid_out.Goals as goal

pub returns-in-Format : goal.returns-in-Format
returns-in-Format c = rw (c.in-Format.is, ← passed w16 c.in-Format.code (search rules) c.half.ensures) c.one_number-in-Format.ensures
