-- `listing::lines::put_end` meets its contract: each end is a line.
use Rattle.listing.specs.Listing.{end_line}
use Rattle.listing.proofs.lines.put_end.Goals as goal

pub returns-in-Whole-clause-wrote : goal.returns-in-Whole-clause-wrote
unfolding end_line
returns-in-Whole-clause-wrote c = rw c.in-Whole.is c.put_words.ensures.wrote

pub returns-in-NeedMore-clause-wrote : goal.returns-in-NeedMore-clause-wrote
unfolding end_line
returns-in-NeedMore-clause-wrote c = rw c.in-NeedMore.is c.put_words-in-NeedMore.ensures.wrote
