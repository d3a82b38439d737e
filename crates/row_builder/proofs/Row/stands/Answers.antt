-- `row_builder::Row::stands` meets its contract: whether there is a last column's start to tell.
use Rattle.row_builder.proofs.Heads.{told_stands}
use Rattle.row_builder.proofs.Row.stands.Goals as goal

pub returns : goal.returns
returns c = rw (c.is_some.ensures, c.last_column.ensures) (told_stands _ _)
