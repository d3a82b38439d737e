-- `listing::names::name_of` meets its contract: an arm's line has its kind's name.
use mathlib.Core.Path.{◌≡◌, refl, ap, sym}
use borrow.Author.Rules.{rules}
use Rattle.protocol.specs.declared.Message.TheVariants as M
use Rattle.protocol.specs.declared.response.GssEncResponse.TheVariants as Gss
use Rattle.protocol.specs.declared.response.GssEncResponse.{GssEncResponse}
use Rattle.protocol.specs.declared.response.SslResponse.TheVariants as Ssl
use Rattle.protocol.specs.declared.response.SslResponse.{SslResponse}
use Rattle.protocol.specs.Kinds.{find, the_table}
use Rattle.protocol.specs.Lines.{filled}
use Rattle.protocol.specs.Names.{name_of}
use Rattle.protocol.specs.Views.{view, numbered}
use Rattle.listing.proofs.Arms.{arm, left_empty}
use Rattle.listing.proofs.names.name_of.Goals as goal

ssl-name : (a : SslResponse) → name_of (M.SslResponse a) ≡ "SslResponse"
unfolding the_table view
ssl-name Ssl.Accept = refl
ssl-name Ssl.Refuse = refl

gss-name : (a : GssEncResponse) → name_of (M.GssEncResponse a) ≡ "GssEncResponse"
unfolding the_table view
gss-name Gss.Accept = refl
gss-name Gss.Refuse = refl

pub empty_name-requires : goal.empty_name-requires
unfolding the_table find numbered
empty_name-requires c = left_empty c.args.message (search rules)

pub returns-in-Parse : goal.returns-in-Parse
unfolding the_table view
returns-in-Parse c = arm c.in-Parse.is refl

pub returns-in-Bind : goal.returns-in-Bind
unfolding the_table view
returns-in-Bind c = arm c.in-Bind.is refl

pub returns-in-Close : goal.returns-in-Close
unfolding the_table view
returns-in-Close c = arm c.in-Close.is refl

pub returns-in-Describe : goal.returns-in-Describe
unfolding the_table view
returns-in-Describe c = arm c.in-Describe.is refl

pub returns-in-Execute : goal.returns-in-Execute
unfolding the_table view
returns-in-Execute c = arm c.in-Execute.is refl

pub returns-in-CopyData : goal.returns-in-CopyData
unfolding the_table view
returns-in-CopyData c = arm c.in-CopyData.is refl

pub returns-in-CopyFail : goal.returns-in-CopyFail
unfolding the_table view
returns-in-CopyFail c = arm c.in-CopyFail.is refl

pub returns-in-RowDescription : goal.returns-in-RowDescription
unfolding the_table view
returns-in-RowDescription c = arm c.in-RowDescription.is refl

pub returns-in-ParameterDescription : goal.returns-in-ParameterDescription
unfolding the_table view
returns-in-ParameterDescription c = arm c.in-ParameterDescription.is refl

pub returns-in-DataRow : goal.returns-in-DataRow
unfolding the_table view
returns-in-DataRow c = arm c.in-DataRow.is refl

pub returns-in-CommandComplete : goal.returns-in-CommandComplete
unfolding the_table view
returns-in-CommandComplete c = arm c.in-CommandComplete.is refl

pub returns-in-ReadyForQuery : goal.returns-in-ReadyForQuery
unfolding the_table view
returns-in-ReadyForQuery c = arm c.in-ReadyForQuery.is refl

pub returns-in-ErrorResponse : goal.returns-in-ErrorResponse
unfolding the_table view
returns-in-ErrorResponse c = arm c.in-ErrorResponse.is refl

pub returns-in-NoticeResponse : goal.returns-in-NoticeResponse
unfolding the_table view
returns-in-NoticeResponse c = arm c.in-NoticeResponse.is refl

pub returns-in-CopyInResponse : goal.returns-in-CopyInResponse
unfolding the_table view
returns-in-CopyInResponse c = arm c.in-CopyInResponse.is refl

pub returns-in-CopyOutResponse : goal.returns-in-CopyOutResponse
unfolding the_table view
returns-in-CopyOutResponse c = arm c.in-CopyOutResponse.is refl

pub returns-in-CopyBothResponse : goal.returns-in-CopyBothResponse
unfolding the_table view
returns-in-CopyBothResponse c = arm c.in-CopyBothResponse.is refl

pub returns-in-NotificationResponse : goal.returns-in-NotificationResponse
unfolding the_table view
returns-in-NotificationResponse c = arm c.in-NotificationResponse.is refl

pub returns-in-CancelRequest : goal.returns-in-CancelRequest
unfolding the_table view
returns-in-CancelRequest c = arm c.in-CancelRequest.is refl

pub returns-in-SslResponse : goal.returns-in-SslResponse
unfolding the_table view
returns-in-SslResponse c = arm c.in-SslResponse.is (sym (ap (filled 20) (ssl-name c.in-SslResponse.field-0)))

pub returns-in-GssEncResponse : goal.returns-in-GssEncResponse
unfolding the_table view
returns-in-GssEncResponse c = arm c.in-GssEncResponse.is (sym (ap (filled 20) (gss-name c.in-GssEncResponse.field-0)))

pub returns-in-Startup : goal.returns-in-Startup
unfolding the_table view
returns-in-Startup c = arm c.in-Startup.is refl

pub returns-in-Query : goal.returns-in-Query
unfolding the_table view
returns-in-Query c = arm c.in-Query.is refl

pub returns-in-ParameterStatus : goal.returns-in-ParameterStatus
unfolding the_table view
returns-in-ParameterStatus c = arm c.in-ParameterStatus.is refl

pub returns-in-BackendKeyData : goal.returns-in-BackendKeyData
unfolding the_table view
returns-in-BackendKeyData c = arm c.in-BackendKeyData.is refl
