-- `listing::put_step` meets its contract: each case of the step is a line.
use Rattle.std.proofs.Common.{refl, sym, ◌∙◌, arith}
use Rattle.listing.specs.Listing.{step_line}
use Rattle.listing.proofs.Openings.{number_is}
use Rattle.listing.proofs.Steps.{frame_size, stopped}
use Rattle.listing.proofs.put_step.Goals as goal

pub overflow_add-result : goal.overflow_add-result
overflow_add-result c = omega (arith, (frame_size _ _ _ (sym c.in-Ok.ensures)).1)

pub returns-in-Ok : goal.returns-in-Ok
unfolding step_line
returns-in-Ok c =
    rw (← number_is c.args.mode, ← c.in-Ok.ensures) (record { wrote = c.put_frame.ensures.wrote; left = refl; short = c.put_frame.ensures.upper_bound })

pub returns-in-Err : goal.returns-in-Err
unfolding step_line
returns-in-Err c =
    let is = sym (stopped c.in-Err.end) ∙ c.in-Err.ensures in
    rw (← number_is c.args.mode, ← is, c.last.ensures) (record { wrote = c.put_end.ensures.wrote; left = refl; short = c.put_end.ensures.upper_bound })
