-- `scan::pass_blocks` meets its contract: the blocks before the first that holds a zero are passed.
use Rattle.std.proofs.Common.{rules, ◌≡◌, ◌/◌, ◌∙◌, arith, drop, length}
use Rattle.std.proofs.lemmas.Iterator.{YieldsList-from_slice}
use Rattle.std.proofs.lemmas.Iterator.Search.{position_from_yields_List}
use Rattle.std.specs.Simd.{first_chunks}
use borrow.Author.Tests.{tests}
use mathlib.Core.Bool.{not}
use Rattle.scan.specs.Zero.{is_clear}
use Rattle.scan.proofs.Zeros.{clear_blocks, found_or_all, past_blocks, rest_is}
use Rattle.scan.proofs.pass_blocks.Goals as goal

pub returns : goal.returns
returns c =
    let s = c.args.s.now in
    let rest = drop c.args.from s in
    let blocks : c.as_chunks.result.0.now ≡ first_chunks 64 (length rest / 64) rest = rw (rest_is s c.args.from) at c.as_chunks.ensures.front in
    let chain = YieldsList-from_slice _ (c.iter.ensures.rest ∙ blocks) in
    let p = position_from_yields_List (λ b. not (is_clear b)) _ _ c.position.result c.position.ensures.ran chain (λ x b q k. search (rules, tests)) in
    let passed : c.unwrap_or-passed.result ≡ clear_blocks (length rest / 64) rest = rw blocks at c.unwrap_or-passed.ensures ∙ found_or_all _ _ p in
    rw passed (past_blocks s c.args.from (length rest / 64) c.requires (omega arith))
