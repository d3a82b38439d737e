-- A message's row, and what its record holds of each field: the inverse of a row's `message`. What is asked of a message by its kind (its name, its
-- number, its lists) is asked of this.
use Rattle.std.specs.Prelude.{ℕ, Bool, List, [], ◌∷◌, ◌++◌, ◌≡◌, eqb, get_or}
use Rattle.std.proofs.Math.Option.{Option, some}
use Rattle.protocol.specs.declared.Message.TheVariants as M
use Rattle.protocol.specs.declared.Message.{Message}
use Rattle.protocol.specs.declared.response.GssEncResponse.TheVariants as Gss
use Rattle.protocol.specs.declared.response.SslResponse.TheVariants as Ssl
use Rattle.protocol.specs.Each.{Each}
use Rattle.protocol.specs.Fields.{Slot}
use Rattle.protocol.specs.Kinds.{Kind, Mode, modes, find, mode_of, kind_in, the_table, frontend, backend, cancel, tls_answer, gss_answer, first_packet, parse, bind, close, describe, execute, flush, sync, copy_done, copy_data, copy_fail, parse_complete, bind_complete, close_complete, portal_suspended, no_data, empty_query_response, row_description, parameter_description, data_row, command_complete, ready_for_query, error_response, notice_response, copy_in_response, copy_out_response, copy_both_response, notification_response, cancel_request, ssl_accept, ssl_refuse, gss_accept, gss_refuse, startup, ssl_request, gss_enc_request, query, terminate, parameter_status, backend_key_data}
use Rattle.protocol.specs.Rules.{rules_of}

pub record View : Type 0 where
  pub kind : Kind
  pub slots : Each Slot kind.body

-- a view of the message m, and the mode in whose table the row stands
pub record Shown (m : Message) : Type 0 where
  pub mode : Mode
  pub view : View

-- the law of one: the row stands in the table of the mode, and of these slots it makes m
pub record IsShown (m : Message) (s : Shown m) : Type 0 where
  pub known : mode_of (rules_of s.mode.mode) ≡ some s.mode
  pub row : kind_in s.mode s.view.kind.tag ≡ some s.view.kind
  pub back : s.view.kind.message s.view.slots ≡ m

abbrev is : {m : Message} (mode : Mode) (k : Kind) → Each Slot k.body → Shown m
is mode k slots = record { mode = mode; view = record { kind = k; slots = slots } }

-- its law, IsShown, is proved of every message in proofs/Views.antt
unfoldable pub shown : (m : Message) → Shown m
unfolding the_table
shown (M.Parse m) = is frontend parse (m.name, (m.query, (m.type_oids, tt)))
shown (M.Bind m) =
    is frontend bind (m.portal_name, (m.statement_name, (m.parameter_format_codes, (m.parameters, (m.result_column_format_codes, tt)))))
shown (M.Close m) = is frontend close (m.target_type, (m.name, tt))
shown (M.Describe m) = is frontend describe (m.target_type, (m.name, tt))
shown (M.Execute m) = is frontend execute (m.name, (m.max_rows, tt))
shown M.Flush = is frontend flush tt
shown M.Sync = is frontend sync tt
shown M.CopyDone = is frontend copy_done tt
shown (M.CopyData m) = is frontend copy_data (m.«data», tt)
shown (M.CopyFail m) = is frontend copy_fail (m.message, tt)
shown M.ParseComplete = is backend parse_complete tt
shown M.BindComplete = is backend bind_complete tt
shown M.CloseComplete = is backend close_complete tt
shown M.PortalSuspended = is backend portal_suspended tt
shown M.NoData = is backend no_data tt
shown M.EmptyQueryResponse = is backend empty_query_response tt
shown (M.RowDescription m) = is backend row_description (m.fields, tt)
shown (M.ParameterDescription m) = is backend parameter_description (m.types, tt)
shown (M.DataRow m) = is backend data_row (m.«data», tt)
shown (M.CommandComplete m) = is backend command_complete (m.tag, tt)
shown (M.ReadyForQuery m) = is backend ready_for_query (m.status, tt)
shown (M.ErrorResponse m) = is backend error_response (m.fields, tt)
shown (M.NoticeResponse m) = is backend notice_response (m.fields, tt)
shown (M.CopyInResponse m) = is backend copy_in_response (m.format, (m.column_formats, tt))
shown (M.CopyOutResponse m) = is backend copy_out_response (m.format, (m.column_formats, tt))
shown (M.CopyBothResponse m) = is backend copy_both_response (m.format, (m.column_formats, tt))
shown (M.NotificationResponse m) = is backend notification_response (m.pid, (m.channel, (m.payload, tt)))
shown (M.CancelRequest m) = is cancel cancel_request (m.pid, (m.secret_key, tt))
shown (M.SslResponse Ssl.Accept) = is tls_answer ssl_accept tt
shown (M.SslResponse Ssl.Refuse) = is tls_answer ssl_refuse tt
shown (M.GssEncResponse Gss.Accept) = is gss_answer gss_accept tt
shown (M.GssEncResponse Gss.Refuse) = is gss_answer gss_refuse tt
shown (M.Startup m) = is first_packet startup (m.parameters, tt)
shown M.SslRequest = is first_packet ssl_request tt
shown M.GssEncRequest = is first_packet gss_enc_request tt
shown (M.Query m) = is frontend query (m.query, tt)
shown M.Terminate = is frontend terminate tt
shown (M.ParameterStatus m) = is backend parameter_status (m.name, (m.value, tt))
shown (M.BackendKeyData m) = is backend backend_key_data (m.pid, (m.secret_key, tt))

unfoldable pub view : Message → View
unfolding shown
view m = (shown m).view

-- ---- kinds by their numbers at the boundary

-- a kind's own number, the first of its row's
abbrev pub kind_number : Kind → ℕ
kind_number k = get_or k.numbers 0 0

-- a message is of a kind: the number tells
unfoldable pub is_kind : Kind → Message → Bool
is_kind k m = eqb (kind_number k) (kind_number (view m).kind)

abbrev rows_of : List Mode → List Kind
rows_of [] = []
rows_of (m ∷ ms) = m.kinds ++ rows_of ms

-- the rows of all modes
abbrev pub rows : List Kind
rows = rows_of modes

-- the row of a number: the first, where two answers have one
unfoldable pub numbered : ℕ → Option Kind
numbered n = find kind_number n rows
