-- `listing::step_at` meets its contract: the place is tested first, and then the rest is decoded.
use Rattle.std.proofs.Common.{◌∙◌, arith}
use Rattle.std.proofs.lemmas.Result.{err_from_is_err_and}
use Rattle.protocol.specs.Stream.{step_by}
use Rattle.listing.proofs.Steps.{step_over, step_within, stopped}
use Rattle.listing.proofs.step_at.Goals as goal

pub returns-then-stream-at : goal.returns-then-stream-at
returns-then-stream-at c = step_over _ _ _ c.if-stream-at.true

pub returns-in_err-decode : goal.returns-in_err-decode
returns-in_err-decode c =
    let p = err_from_is_err_and c.from_residual.result c.from_residual.ensures.1 in
    rw p.1 (stopped _ ∙ p.2 ∙ step_within _ _ _ _ (omega arith) c.in_err-decode.ensures)

pub returns : goal.returns
unfolding step_by
returns c = step_within _ _ _ _ (omega arith) c.in_ok-decode.ensures
