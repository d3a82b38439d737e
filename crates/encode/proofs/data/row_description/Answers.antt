-- `encode::data::row_description` meets its contract: two passes, one that measures and one that writes.
use Rattle.std.proofs.Common.{arith, refl}
use Rattle.std.proofs.lemmas.Result.{err_from_is_err_and}
use Rattle.row_fields.specs.Passes.{writing_pass}
use Rattle.encode.proofs.TwoPasses.{joined, kept}
use Rattle.encode.proofs.data.row_description.Goals as goal

pub returns-in_err-n : goal.returns-in_err-n
returns-in_err-n c = let a = c.args in
    let p = err_from_is_err_and c.from_residual.result c.from_residual.ensures.1 in
    rw (p.1, p.2)
    (kept a.fields.now a.run.now a.out.now (omega arith) c.each-measured.ensures.0 c.each-measured.ensures.1 c.in_err-n.ensures.0 c.in_err-n.ensures.1)

pub returns : goal.returns
unfolding writing_pass
returns c = let a = c.args in
    joined a.fields.now a.run.now a.out.now (omega arith) c.each-measured.ensures.0 c.each-measured.ensures.1 c.in_ok-n.ensures.0 c.in_ok-n.ensures.1 c.writing_pass.ensures c.each.ensures.1
