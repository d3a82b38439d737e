-- The record of each kind, made of what was read of its fields, from left to right (docs/FORMAT.md 4 and 7).
use Rattle.std.specs.Prelude.{ℕ, ℤ}
use Rattle.protocol.specs.declared.List.{List as ListSlot}
use Rattle.protocol.specs.declared.Message.TheVariants as M
use Rattle.protocol.specs.declared.Message.{Message}
use Rattle.protocol.specs.declared.Span.{Span}
use Rattle.protocol.specs.declared.response.GssEncResponse.TheVariants as Gss
use Rattle.protocol.specs.declared.response.SslResponse.TheVariants as Ssl

abbrev pub parse : Span → Span → ListSlot → Message
parse name query type_oids = M.Parse (record { name = name; query = query; type_oids = type_oids })

abbrev pub bind : Span → Span → ListSlot → ListSlot → ListSlot → Message
bind portal_name statement_name parameter_format_codes parameters result_column_format_codes = M.Bind (record {
  portal_name = portal_name;
  statement_name = statement_name;
  parameter_format_codes = parameter_format_codes;
  parameters = parameters;
  result_column_format_codes = result_column_format_codes;
})

abbrev pub close : ℕ → Span → Message
close target_type name = M.Close (record { target_type = target_type; name = name })

abbrev pub describe : ℕ → Span → Message
describe target_type name = M.Describe (record { target_type = target_type; name = name })

abbrev pub execute : Span → ℤ → Message
execute name max_rows = M.Execute (record { name = name; max_rows = max_rows })

abbrev pub flush : Message
flush = M.Flush

abbrev pub sync : Message
sync = M.Sync

abbrev pub copy_done : Message
copy_done = M.CopyDone

abbrev pub copy_data : Span → Message
copy_data «data» = M.CopyData (record { «data» = «data» })

abbrev pub copy_fail : Span → Message
copy_fail message = M.CopyFail (record { message = message })

abbrev pub parse_complete : Message
parse_complete = M.ParseComplete

abbrev pub bind_complete : Message
bind_complete = M.BindComplete

abbrev pub close_complete : Message
close_complete = M.CloseComplete

abbrev pub portal_suspended : Message
portal_suspended = M.PortalSuspended

abbrev pub no_data : Message
no_data = M.NoData

abbrev pub empty_query_response : Message
empty_query_response = M.EmptyQueryResponse

abbrev pub row_description : ListSlot → Message
row_description fields = M.RowDescription (record { fields = fields })

abbrev pub parameter_description : ListSlot → Message
parameter_description types = M.ParameterDescription (record { types = types })

abbrev pub data_row : ListSlot → Message
data_row «data» = M.DataRow (record { «data» = «data» })

abbrev pub command_complete : Span → Message
command_complete tag = M.CommandComplete (record { tag = tag })

abbrev pub ready_for_query : ℕ → Message
ready_for_query status = M.ReadyForQuery (record { status = status })

abbrev pub error_response : ListSlot → Message
error_response fields = M.ErrorResponse (record { fields = fields })

abbrev pub notice_response : ListSlot → Message
notice_response fields = M.NoticeResponse (record { fields = fields })

abbrev pub copy_in_response : ℤ → ListSlot → Message
copy_in_response format column_formats = M.CopyInResponse (record { format = format; column_formats = column_formats })

abbrev pub copy_out_response : ℤ → ListSlot → Message
copy_out_response format column_formats = M.CopyOutResponse (record { format = format; column_formats = column_formats })

abbrev pub copy_both_response : ℤ → ListSlot → Message
copy_both_response format column_formats = M.CopyBothResponse (record { format = format; column_formats = column_formats })

abbrev pub notification_response : ℤ → Span → Span → Message
notification_response pid channel payload = M.NotificationResponse (record { pid = pid; channel = channel; payload = payload })

abbrev pub cancel_request : ℤ → ℤ → Message
cancel_request pid secret_key = M.CancelRequest (record { pid = pid; secret_key = secret_key })

abbrev pub ssl_accept : Message
ssl_accept = M.SslResponse Ssl.Accept

abbrev pub ssl_refuse : Message
ssl_refuse = M.SslResponse Ssl.Refuse

abbrev pub gss_accept : Message
gss_accept = M.GssEncResponse Gss.Accept

abbrev pub gss_refuse : Message
gss_refuse = M.GssEncResponse Gss.Refuse

abbrev pub startup : ListSlot → Message
startup parameters = M.Startup (record { parameters = parameters })

abbrev pub ssl_request : Message
ssl_request = M.SslRequest

abbrev pub gss_enc_request : Message
gss_enc_request = M.GssEncRequest

abbrev pub query : Span → Message
query text = M.Query (record { query = text })

abbrev pub terminate : Message
terminate = M.Terminate

abbrev pub parameter_status : Span → Span → Message
parameter_status name value = M.ParameterStatus (record { name = name; value = value })

abbrev pub backend_key_data : ℤ → ℤ → Message
backend_key_data pid secret_key = M.BackendKeyData (record { pid = pid; secret_key = secret_key })
