-- `reader::row::data_row` meets its contract: a row that is answered ends within the buffer, and both lists have room for it.
use Rattle.std.proofs.Common.{sym, length}
use lib.Seq.{length-take-le}
use Rattle.reader.proofs.RowRoom.{IsRow, is_row}
use Rattle.reader.proofs.row.data_row.Goals as goal

pub slice_bounds-fill-end : goal.slice_bounds-fill-end
slice_bounds-fill-end c =
    let row : IsRow c.args.buf.now (length c.args.starts.now) (length c.args.lengths.now) c.in_ok-list.list c.in_ok-list.end = is_row _ _ _ _ _ _ c.in_ok-list.ensures in
    sym (length-take-le _ _ row.within)

pub fill-requires : goal.fill-requires
fill-requires c =
    let row : IsRow c.args.buf.now (length c.args.starts.now) (length c.args.lengths.now) c.in_ok-list.list c.in_ok-list.end = is_row _ _ _ _ _ _ c.in_ok-list.ensures in
    (row.for_starts, row.for_lengths)
