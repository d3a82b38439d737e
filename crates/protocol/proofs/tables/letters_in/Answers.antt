-- `protocol::tables::letters_in` meets its contract: the place of the first space.
use Rattle.std.proofs.Common.{rules, ◌≡◌, length, ◌∙◌}
use Rattle.std.proofs.lemmas.Iterator.{YieldsList-from_slice}
use Rattle.std.proofs.lemmas.Iterator.Search.{position_from_yields_List}
use borrow.Author.Tests.{tests}
use Rattle.protocol.proofs.Lines.{letters_found}
use Rattle.protocol.proofs.tables.letters_in.Goals as goal

pub returns : goal.returns
returns c =
    let n : length c.args.name ≡ 20 = search rules in
    let chain = YieldsList-from_slice c.args.name (cc) in
    let p = position_from_yields_List _ _ _ c.position.result c.position.ensures.ran chain (λ x b q k. search (rules, tests)) in
    c.unwrap_or.ensures ∙ letters_found c.args.name 20 p n
