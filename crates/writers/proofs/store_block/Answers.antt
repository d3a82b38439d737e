-- `writers::store_block` meets its contract.
use Rattle.std.proofs.Common.{◌+◌, ◌≤◌, ◌≡◌, length, arith}
use Rattle.writers.proofs.Laws.{copied}
use Rattle.writers.proofs.store_block.Goals as goal

pub returns : goal.returns
returns g c =
    let size : length c.args.block ≡ g.row.N = c.well_formed.1.1.0.1.0.1 in
    let room : c.args.at + length c.args.block ≤ length c.args.out.now = omega (arith, size, c.requires) in
    rw size at (copied c.args.out.now c.args.at c.args.block room c.copy_from_slice.ensures.after)
