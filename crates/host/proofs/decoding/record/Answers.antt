-- `host::decoding::record` meets its contract: kind by kind, the numbers of its row and of its fields; a query's answers are `query_answer`'s.
use Prim.Native.Nat.{ℕ, ◌≤◌}
use mathlib.Core.Bool.{Bool, ◌&&◌}
use mathlib.Core.List.{[], ◌∷◌}
use mathlib.Core.Path.{◌≡◌, refl}
use mir.Syntax.{w8, w32}
use borrow.Author.Rules.{rules}
use lib.Dec.{T, leb, leb→le}
use Rattle.protocol.specs.declared.Message.TheVariants as M
use Rattle.protocol.specs.declared.response.GssEncResponse.TheVariants as Gss
use Rattle.protocol.specs.declared.response.GssEncResponse.{GssEncResponse}
use Rattle.protocol.specs.declared.response.SslResponse.TheVariants as Ssl
use Rattle.protocol.specs.declared.response.SslResponse.{SslResponse}
use Rattle.protocol.specs.Kinds.{Kind, Mode, modes, find, the_table}
use Rattle.protocol.specs.Views.{view, kind_number, numbered}
use Rattle.protocol.proofs.Basics.{left_holds, right_holds}
use Rattle.protocol.proofs.Find.{All}
use Rattle.protocol.proofs.Views.{Placed, passes}
use Rattle.host_layout.specs.LaidOut.{numbers_of, own_number}
use Rattle.host_layout.proofs.Signs.{back}
use Rattle.host.proofs.decoding.record.Goals as goal

ssl-numbers : (a : SslResponse) → numbers_of (M.SslResponse a) ≡ 29 ∷ own_number (view (M.SslResponse a)).kind ∷ []
unfolding the_table view numbers_of
ssl-numbers Ssl.Accept = refl
ssl-numbers Ssl.Refuse = refl

gss-numbers : (a : GssEncResponse) → numbers_of (M.GssEncResponse a) ≡ 30 ∷ own_number (view (M.GssEncResponse a)).kind ∷ []
unfolding the_table view numbers_of
gss-numbers Gss.Accept = refl
gss-numbers Gss.Refuse = refl

abbrev answers : Kind → Bool
answers k = leb 16 (kind_number k) && leb (kind_number k) 23

placed : All (λ (m : Mode). All (Placed answers) m.kinds) modes
unfolding the_table find numbered
placed = search tt depth 60 fits 5000

between : (n : ℕ) → T (leb 16 n && leb n 23) → (16 ≤ n) × (n ≤ 23)
between n t = (leb→le 16 n (left_holds (leb 16 n) (leb n 23) t), leb→le n 23 (right_holds (leb 16 n) (leb n 23) t))

pub query_answer-requires : goal.query_answer-requires
unfolding the_table find numbered
query_answer-requires c = between _ (passes answers placed _ (search rules))

pub returns-in-Parse : goal.returns-in-Parse
unfolding the_table view numbers_of
returns-in-Parse c = rw c.in-Parse.is c.parse.ensures

pub returns-in-Bind : goal.returns-in-Bind
unfolding the_table view numbers_of
returns-in-Bind c = rw c.in-Bind.is c.bind.ensures

pub returns-in-Close : goal.returns-in-Close
unfolding the_table view numbers_of
returns-in-Close c = rw c.in-Close.is c.target.ensures

pub returns-in-Describe : goal.returns-in-Describe
unfolding the_table view numbers_of
returns-in-Describe c = rw c.in-Describe.is c.target-in-Describe.ensures

pub returns-in-Execute : goal.returns-in-Execute
unfolding the_table view numbers_of
returns-in-Execute c = rw c.in-Execute.is c.execute.ensures

pub returns-in-Flush : goal.returns-in-Flush
unfolding the_table view numbers_of
returns-in-Flush c = rw c.in-Flush.is c.none.ensures

pub returns-in-Sync : goal.returns-in-Sync
unfolding the_table view numbers_of
returns-in-Sync c = rw c.in-Sync.is c.none-in-Sync.ensures

pub returns-in-CopyDone : goal.returns-in-CopyDone
unfolding the_table view numbers_of
returns-in-CopyDone c = rw c.in-CopyDone.is c.none-in-CopyDone.ensures

pub returns-in-CopyData : goal.returns-in-CopyData
unfolding the_table view numbers_of
returns-in-CopyData c = rw c.in-CopyData.is c.one_span.ensures

pub returns-in-CopyFail : goal.returns-in-CopyFail
unfolding the_table view numbers_of
returns-in-CopyFail c = rw c.in-CopyFail.is c.one_span-in-CopyFail.ensures

pub returns-in-ParseComplete : goal.returns-in-ParseComplete
unfolding the_table view numbers_of
returns-in-ParseComplete c = rw c.in-ParseComplete.is c.none-in-ParseComplete.ensures

pub returns-in-BindComplete : goal.returns-in-BindComplete
unfolding the_table view numbers_of
returns-in-BindComplete c = rw c.in-BindComplete.is c.none-in-BindComplete.ensures

pub returns-in-CloseComplete : goal.returns-in-CloseComplete
unfolding the_table view numbers_of
returns-in-CloseComplete c = rw c.in-CloseComplete.is c.none-in-CloseComplete.ensures

pub returns-in-PortalSuspended : goal.returns-in-PortalSuspended
unfolding the_table view numbers_of
returns-in-PortalSuspended c = rw c.in-PortalSuspended.is c.none-in-PortalSuspended.ensures

pub returns-in-NoData : goal.returns-in-NoData
unfolding the_table view numbers_of
returns-in-NoData c = rw c.in-NoData.is c.none-in-NoData.ensures

pub returns-in-CopyInResponse : goal.returns-in-CopyInResponse
unfolding the_table view numbers_of
returns-in-CopyInResponse c = rw c.in-CopyInResponse.is (rw (back w8 c.in-CopyInResponse.m.format c.struct_told-1.given.0.1) at c.copy.ensures)

pub returns-in-CopyOutResponse : goal.returns-in-CopyOutResponse
unfolding the_table view numbers_of
returns-in-CopyOutResponse c = rw c.in-CopyOutResponse.is (rw (back w8 c.in-CopyOutResponse.m.format c.struct_told-in-CopyOutResponse-1.given.0.1) at c.copy-in-CopyOutResponse.ensures)

pub returns-in-CopyBothResponse : goal.returns-in-CopyBothResponse
unfolding the_table view numbers_of
returns-in-CopyBothResponse c = rw c.in-CopyBothResponse.is (rw (back w8 c.in-CopyBothResponse.m.format c.struct_told-in-CopyBothResponse-1.given.0.1) at c.copy-in-CopyBothResponse.ensures)

pub returns-in-NotificationResponse : goal.returns-in-NotificationResponse
unfolding the_table view numbers_of
returns-in-NotificationResponse c = rw c.in-NotificationResponse.is c.notification.ensures

pub returns-in-CancelRequest : goal.returns-in-CancelRequest
unfolding the_table view numbers_of
returns-in-CancelRequest c = rw c.in-CancelRequest.is (rw (back w32 c.in-CancelRequest.m.pid c.struct_told-in-CancelRequest-1.given.0.1) at (rw (back w32 c.in-CancelRequest.m.secret_key c.struct_told-in-CancelRequest-2-1.given.1.0.1) at c.key.ensures))

pub returns-in-SslResponse : goal.returns-in-SslResponse
returns-in-SslResponse c = rw (c.in-SslResponse.is, ssl-numbers, ← c.ssl_number.ensures) c.one_number.ensures

pub returns-in-GssEncResponse : goal.returns-in-GssEncResponse
returns-in-GssEncResponse c = rw (c.in-GssEncResponse.is, gss-numbers, ← c.gss_number.ensures) c.one_number-in-GssEncResponse.ensures

pub returns-in-Startup : goal.returns-in-Startup
unfolding the_table view numbers_of
returns-in-Startup c = rw c.in-Startup.is c.one_list.ensures

pub returns-in-SslRequest : goal.returns-in-SslRequest
unfolding the_table view numbers_of
returns-in-SslRequest c = rw c.in-SslRequest.is c.none-in-SslRequest.ensures

pub returns-in-GssEncRequest : goal.returns-in-GssEncRequest
unfolding the_table view numbers_of
returns-in-GssEncRequest c = rw c.in-GssEncRequest.is c.none-in-GssEncRequest.ensures

pub returns-in-Query : goal.returns-in-Query
unfolding the_table view numbers_of
returns-in-Query c = rw c.in-Query.is c.one_span-in-Query.ensures

pub returns-in-Terminate : goal.returns-in-Terminate
unfolding the_table view numbers_of
returns-in-Terminate c = rw c.in-Terminate.is c.none-in-Terminate.ensures

pub returns-in-ParameterStatus : goal.returns-in-ParameterStatus
unfolding the_table view numbers_of
returns-in-ParameterStatus c = rw c.in-ParameterStatus.is c.two_spans.ensures

pub returns-in-BackendKeyData : goal.returns-in-BackendKeyData
unfolding the_table view numbers_of
returns-in-BackendKeyData c = rw c.in-BackendKeyData.is (rw (back w32 c.in-BackendKeyData.m.pid c.struct_told-in-BackendKeyData-1.given.0.1) at (rw (back w32 c.in-BackendKeyData.m.secret_key c.struct_told-in-BackendKeyData-2-1.given.1.0.1) at c.key-in-BackendKeyData.ensures))
