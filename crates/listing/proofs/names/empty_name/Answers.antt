-- `listing::names::empty_name` meets its contract: an arm's line has its kind's name, and the last arm has the one kind that is left.
use mathlib.Core.Path.{refl}
use borrow.Author.Rules.{rules}
use Rattle.protocol.specs.Kinds.{find, the_table}
use Rattle.protocol.specs.Views.{view, numbered}
use Rattle.listing.proofs.Arms.{arm, left_last}
use Rattle.listing.proofs.names.empty_name.Goals as goal

pub returns-in-Flush : goal.returns-in-Flush
unfolding the_table view
returns-in-Flush c = arm c.in-Flush.is refl

pub returns-in-Sync : goal.returns-in-Sync
unfolding the_table view
returns-in-Sync c = arm c.in-Sync.is refl

pub returns-in-CopyDone : goal.returns-in-CopyDone
unfolding the_table view
returns-in-CopyDone c = arm c.in-CopyDone.is refl

pub returns-in-ParseComplete : goal.returns-in-ParseComplete
unfolding the_table view
returns-in-ParseComplete c = arm c.in-ParseComplete.is refl

pub returns-in-BindComplete : goal.returns-in-BindComplete
unfolding the_table view
returns-in-BindComplete c = arm c.in-BindComplete.is refl

pub returns-in-CloseComplete : goal.returns-in-CloseComplete
unfolding the_table view
returns-in-CloseComplete c = arm c.in-CloseComplete.is refl

pub returns-in-PortalSuspended : goal.returns-in-PortalSuspended
unfolding the_table view
returns-in-PortalSuspended c = arm c.in-PortalSuspended.is refl

pub returns-in-NoData : goal.returns-in-NoData
unfolding the_table view
returns-in-NoData c = arm c.in-NoData.is refl

pub returns-in-EmptyQueryResponse : goal.returns-in-EmptyQueryResponse
unfolding the_table view
returns-in-EmptyQueryResponse c = arm c.in-EmptyQueryResponse.is refl

pub returns-in-SslRequest : goal.returns-in-SslRequest
unfolding the_table view
returns-in-SslRequest c = arm c.in-SslRequest.is refl

pub returns-in-GssEncRequest : goal.returns-in-GssEncRequest
unfolding the_table view
returns-in-GssEncRequest c = arm c.in-GssEncRequest.is refl

pub returns-in_default : goal.returns-in_default
unfolding the_table find numbered
returns-in_default c = left_last c.args.message c.requires (search rules)
