-- `encode::extendedquery::bind` meets its contract.
use mathlib.Core.Bool.{◌&&◌}
use mathlib.Core.Path.{refl}
use native.Mathlib.Omega.{arith}
use borrow.Author.Tests.{leb-true}
use lib.Dec.{leb}
use lib.ListN.{length}
use Rattle.std.proofs.lemmas.Result.{err_from_is_err_and}
use Rattle.protocol.specs.Bytes.{no_zero}
use Rattle.protocol.specs.Each.{bytes_of_each}
use Rattle.protocol.specs.Encode.{items, values_given}
use Rattle.protocol.specs.Fields.{most, unsigned_count, bytes, atom_bytes}
use Rattle.protocol.specs.Kinds as K
use Rattle.protocol.specs.WellFormed.{body_bytes}
use Rattle.protocol.proofs.Basics.{and_left, and_right}
use Rattle.writers.specs.Given.{is_some}
use Rattle.writers.proofs.Puts.{◌and◌, none}
use Rattle.encode.specs.Given as G
use Rattle.encode.proofs.Answered.{denied, granted, wrote_given}
use Rattle.encode.proofs.Measures as M
use Rattle.encode.proofs.extendedquery.bind.Goals as goal

pub returns-in_err-n : goal.returns-in_err-n
returns-in_err-n c = let a = c.args in
    denied (M.bind a.portal_name.now a.statement_name.now a.parameter_format_codes.now a.lengths.now a.joined.now a.result_column_format_codes.now) (omega arith) (cc) (λ _. omega (arith, c.plus4-lists.ensures, c.plus4-size.ensures))
    (err_from_is_err_and c.from_residual.result c.from_residual.ensures.1) c.in_err-n.ensures

pub returns : goal.returns
unfolding K.bind G.bind body_bytes bytes_of_each bytes atom_bytes
returns c = let a = c.args in
    wrote_given K.bind (λ vs. (a.portal_name.now, (a.statement_name.now, (items a.parameter_format_codes.now, (vs, (items a.result_column_format_codes.now, tt)))))) (M.bind a.portal_name.now a.statement_name.now a.parameter_format_codes.now a.lengths.now a.joined.now a.result_column_format_codes.now) (omega arith) (cc) (λ _. omega (arith, c.plus4-lists.ensures, c.plus4-size.ensures)) c.in_ok-n.ensures c.put_head-at.ensures
    (λ vs is able.
    let counts = and_right ((is_some (values_given a.lengths.now a.joined.now) && no_zero a.portal_name.now) && no_zero a.statement_name.now) able in
    c.put_text-at.ensures.fits refl and c.put_text-at-2.ensures.fits refl and c.put_formats-at.ensures.fits (and_left _ _ (and_left _ _ counts)) and (λ _. c.put_values-at.ensures.field vs is) and c.put_formats.ensures.fits (and_right (leb (length a.parameter_format_codes.now) (most unsigned_count) && leb (length a.lengths.now) (most unsigned_count)) counts) and none)
    (omega arith)

pub put_values-at-requires : goal.put_values-at-requires
put_values-at-requires c = let a = c.args in
    let g = granted (M.bind a.portal_name.now a.statement_name.now a.parameter_format_codes.now a.lengths.now a.joined.now a.result_column_format_codes.now) (omega arith) (cc) (λ _. omega (arith, c.plus4-lists.ensures, c.plus4-size.ensures)) c.in_ok-n.ensures in
    let counts = and_right ((is_some (values_given a.lengths.now a.joined.now) && no_zero a.portal_name.now) && no_zero a.statement_name.now) g.able in
    (omega (arith, g.whole, g.fits, c.put_head-at.ensures.near, c.put_text-at.ensures.near, c.put_text-at-2.ensures.near, c.put_formats-at.ensures.near), leb-true _ _ (and_right (leb (length a.parameter_format_codes.now) (most unsigned_count)) (and_left _ _ counts)), and_left _ _ (and_left _ _ (and_left _ _ g.able)))
