-- `encode::data::data_row` meets its contract.
use native.Mathlib.Omega.{arith}
use borrow.Author.Tests.{leb-true}
use Rattle.std.proofs.lemmas.Result.{err_from_is_err_and}
use Rattle.protocol.specs.Each.{bytes_of_each}
use Rattle.protocol.specs.Encode.{values_given}
use Rattle.protocol.specs.Fields.{bytes}
use Rattle.protocol.specs.Kinds as K
use Rattle.protocol.specs.WellFormed.{body_bytes}
use Rattle.protocol.proofs.Basics.{and_left, and_right}
use Rattle.writers.specs.Given.{is_some}
use Rattle.writers.proofs.Puts.{◌and◌, none}
use Rattle.encode.specs.Given as G
use Rattle.encode.proofs.Answered.{denied, granted, wrote_given}
use Rattle.encode.proofs.Measures as M
use Rattle.encode.proofs.data.data_row.Goals as goal

pub returns-in_err-n : goal.returns-in_err-n
returns-in_err-n c = let a = c.args in
    denied (M.data_row a.lengths.now a.joined.now) (omega arith) (cc) (λ _. omega (arith, c.plus-size.ensures))
    (err_from_is_err_and c.from_residual.result c.from_residual.ensures.1) c.in_err-n.ensures

pub returns : goal.returns
unfolding K.data_row G.data_row body_bytes bytes_of_each bytes
returns c = let a = c.args in
    wrote_given K.data_row (λ vs. (vs, tt)) (M.data_row a.lengths.now a.joined.now) (omega arith) (cc) (λ _. omega (arith, c.plus-size.ensures)) c.in_ok-n.ensures c.put_head-at.ensures
    (λ vs is _. (λ _. c.put_values.ensures.field vs is) and none)
    (omega arith)

pub put_values-requires : goal.put_values-requires
put_values-requires c = let a = c.args in
    let g = granted (M.data_row a.lengths.now a.joined.now) (omega arith) (cc) (λ _. omega (arith, c.plus-size.ensures)) c.in_ok-n.ensures in
    (omega (arith, g.whole, g.fits, c.put_head-at.ensures.near), (let few = leb-true _ _ (and_right (is_some (values_given a.lengths.now a.joined.now)) g.able) in omega (arith, few)), and_left _ _ g.able)
