-- `encode::startup::startup` meets its contract.
use native.Mathlib.Omega.{arith}
use Rattle.std.proofs.lemmas.Result.{err_from_is_err_and}
use Rattle.protocol.specs.Each.{bytes_of_each}
use Rattle.protocol.specs.Encode.{pairs_given}
use Rattle.protocol.specs.Kinds as K
use Rattle.protocol.specs.WellFormed.{body_bytes}
use Rattle.protocol.proofs.Basics.{and_left}
use Rattle.writers.proofs.Encoding.{framed_untyped}
use Rattle.writers.proofs.GivenLaws.{framed_given}
use Rattle.writers.proofs.Puts.{◌and◌, none}
use Rattle.encode.specs.Given as G
use Rattle.encode.proofs.Answered.{denied, granted}
use Rattle.encode.proofs.Measures as M
use Rattle.encode.proofs.startup.startup.Goals as goal

pub returns-in_err-n : goal.returns-in_err-n
returns-in_err-n c = let a = c.args in
    denied (M.startup a.lengths.now a.joined.now) (omega arith) (cc) (λ _. omega (arith, c.plus-size.ensures))
    (err_from_is_err_and c.from_residual.result c.from_residual.ensures.1) c.in_err-n.ensures

pub overflow_cast-n : goal.overflow_cast-n
overflow_cast-n c = let a = c.args in
    let g = granted (M.startup a.lengths.now a.joined.now) (omega arith) (cc) (λ _. omega (arith, c.plus-size.ensures)) c.in_ok-n.ensures in
    omega (arith, g.small)

pub put_parameters-requires : goal.put_parameters-requires
put_parameters-requires c = let a = c.args in
    let g = granted (M.startup a.lengths.now a.joined.now) (omega arith) (cc) (λ _. omega (arith, c.plus-size.ensures)) c.in_ok-n.ensures in
    (omega (arith, g.whole, g.fits, c.put_word-at.ensures.near, c.put_word-at-2.ensures.near), and_left _ _ (and_left _ _ g.able))

pub returns : goal.returns
unfolding K.startup G.startup body_bytes bytes_of_each
returns c = let a = c.args in
    let g = granted (M.startup a.lengths.now a.joined.now) (omega arith) (cc) (λ _. omega (arith, c.plus-size.ensures)) c.in_ok-n.ensures in
    g.done
    (framed_given K.startup (λ ps. (ps, tt)) (pairs_given a.lengths.now a.joined.now)
    (λ ps is. framed_untyped K.startup (ps, tt) c.put_word-at.ensures c.put_word-at-2.ensures ((λ _. c.put_parameters.ensures.field ps is) and none) (omega (arith, g.whole)) g.fits))
