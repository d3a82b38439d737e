-- `listing::text::put_number` meets its contract: what is copied is the number's digits.
use Rattle.std.proofs.Common.{refl, ◌∙◌, arith}
use Rattle.listing.proofs.Digits.{printed_is}
use Rattle.listing.proofs.Writing.{same}
use Rattle.listing.proofs.text.put_number.Goals as goal

pub returns-clause-wrote : goal.returns-clause-wrote
returns-clause-wrote c =
    let is = c.as_bytes.ensures.value ∙ c.format-digits.ensures.text ∙ printed_is c.args.n (omega arith) in
    same is (c.put_bytes.ensures.fits refl (omega arith))
