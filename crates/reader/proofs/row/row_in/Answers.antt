-- `reader::row::row_in` meets its contract: a row for which there is room.
use Rattle.reader.specs.Row.{row_fits}
use Rattle.reader.proofs.RowRoom.{row_in_lem, refused, too_few, enough}
use Rattle.reader.proofs.row.row_in.Goals as goal

pub returns-in_default : goal.returns-in_default
returns-in_default c = λ n. rw c.at.ensures (refused c.args.message c.in_default.not-DataRow n c.args.starts c.args.lengths)

pub returns-then-starts-list : goal.returns-then-starts-list
unfolding row_fits
returns-then-starts-list c = λ n. rw (c.at-then-starts-list.ensures, c.in-DataRow.is, row_in_lem) (too_few _ n _ _ c.then-starts-list.either)

pub returns : goal.returns
unfolding row_fits
returns c = λ n. rw (c.in-DataRow.is, row_in_lem) (enough _ n _ _ c.if-starts-list.false c.if-lengths-list.false)
