-- `listing::EndFromUnread::from` meets its contract: each case.
use Rattle.std.proofs.Common.{refl}
use Rattle.protocol.specs.Stream.{step_by}
use Rattle.listing.proofs.EndFromUnread.from.Goals as goal

pub returns-in-NeedMore : goal.returns-in-NeedMore
unfolding step_by
returns-in-NeedMore c = rw c.in-NeedMore.is refl

pub returns-in-Refused : goal.returns-in-Refused
unfolding step_by
returns-in-Refused c = rw c.in-Refused.is refl
