-- `listing::put_from` meets its contract: the opening decides.
use Rattle.std.proofs.Common.{◌-◌, length, drop, refl, sym, length-drop, arith}
use lib.Seq.{take_all}
use Rattle.listing.specs.Listing.{line_from}
use Rattle.listing.proofs.Openings.{opens, bad_from}
use Rattle.listing.proofs.put_from.Goals as goal

pub slice_bounds-put_step-count : goal.slice_bounds-put_step-count
slice_bounds-put_step-count c = opens _ _ (sym c.in-Ok.ensures)

pub slice_bounds-put_step-start : goal.slice_bounds-put_step-start
slice_bounds-put_step-start c = omega (arith, opens _ _ (sym c.in-Ok.ensures))

pub returns-in-Ok : goal.returns-in-Ok
unfolding line_from
returns-in-Ok c =
    let s = c.args.input.now in
    let all = take_all (length s - 1) (drop 1 s) (simp length-drop (omega arith)) in
    rw (← c.in-Ok.ensures) (rw all at c.put_step.ensures)

pub returns-in-Err : goal.returns-in-Err
unfolding line_from
returns-in-Err c =
    rw (← c.in-Err.ensures, bad_from, c.last.ensures) (record { wrote = c.put_bad.ensures.wrote; left = refl; short = c.put_bad.ensures.upper_bound })
