-- `scan::plain` meets its contract: a zero byte is found at its place, or there is none to the end.
use Rattle.std.proofs.Common.{rules, ◌∙◌, sym}
use Rattle.std.proofs.lemmas.Iterator.{YieldsList-from_slice}
use Rattle.std.proofs.lemmas.Iterator.Search.{position_from_yields_List}
use borrow.Author.Tests.{tests}
use lib.Dec.{eqb}
use Rattle.scan.proofs.Zeros.{found_there, found_nowhere, rest_is}
use Rattle.scan.proofs.plain.Goals as goal

pub returns-in-Some : goal.returns-in-Some
returns-in-Some c =
    let chain = YieldsList-from_slice _ (c.iter.ensures.rest ∙ rest_is c.args.s.now c.args.from) in
    let p = position_from_yields_List (λ b. eqb b 0) _ _ c.position.result c.position.ensures.ran chain (λ x b q k. search (rules, tests)) in
    found_there c.args.s.now c.args.from c.in-Some.n (sym c.in-Some.is ∙ p)

pub returns-in-None : goal.returns-in-None
returns-in-None c =
    let chain = YieldsList-from_slice _ (c.iter.ensures.rest ∙ rest_is c.args.s.now c.args.from) in
    let p = position_from_yields_List (λ b. eqb b 0) _ _ c.position.result c.position.ensures.ran chain (λ x b q k. search (rules, tests)) in
    found_nowhere c.args.s.now c.args.from c.requires (sym c.in-None.is ∙ p)
