-- For each kind, the content that its encoder's arguments are, if they are one. The arguments stand in the order of the body's fields.
use Rattle.std.specs.Prelude.{ℕ, List, [], ◌∷◌, ℤ}
use Rattle.std.proofs.Math.Option.{Option, some, map}
use Rattle.protocol.specs.declared.Message.TheVariants.{Sync}
use Rattle.protocol.specs.declared.data.FieldDescription.{FieldDescription}
use Rattle.protocol.specs.declared.response.GssEncResponse.TheVariants as Gss
use Rattle.protocol.specs.declared.response.GssEncResponse.{GssEncResponse}
use Rattle.protocol.specs.declared.response.SslResponse.TheVariants as Ssl
use Rattle.protocol.specs.declared.response.SslResponse.{SslResponse}
use Rattle.protocol.specs.Encode.{items, values_given, error_fields_given, pairs_given, row_fields_given, ssl_kind, gss_kind}
use Rattle.protocol.specs.Fields.{signed_count, Field}
use Rattle.protocol.specs.Kinds as K
use Rattle.protocol.specs.Kinds.{Kind}
use Rattle.protocol.specs.WellFormed.{Contents}

-- what an encoder of the kind k is given
abbrev pub Given : Kind → Type 0
Given k = Option (Contents k)

-- a kind of which an encoder sees all that it needs: name, number and record do not matter to it
abbrev pub anonymous : ℕ → ℕ → ℕ → List Field → Kind
anonymous tag smallest limit body = record {
  name = "";
  tag = tag;
  smallest = smallest;
  limit = limit;
  numbers = [];
  body = body;
  message = λ _. Sync;
}

-- kinds of one shape: for an encoder, the type byte is all that tells them apart
abbrev pub shaped : ℕ → List Field → ℕ → Kind
shaped smallest body tag = anonymous tag smallest K.small body

-- no field; a string; a target and a name; a format and the columns' formats
abbrev pub fieldless : ℕ → Kind
fieldless = shaped 4 []

abbrev pub texted : ℕ → Kind
texted = shaped 5 (K.string ∷ [])

abbrev pub aimed : ℕ → Kind
aimed = shaped 6 (K.target ∷ K.string ∷ [])

abbrev pub formatted : ℕ → Kind
formatted = shaped 7 (K.i8 ∷ K.formats signed_count ∷ [])

abbrev pub text_of : (tag : ℕ) → List ℕ → Given (texted tag)
text_of tag s = some (s, tt)

abbrev pub aim_of : (tag : ℕ) → ℕ → List ℕ → Given (aimed tag)
aim_of tag target name = some (target, (name, tt))

abbrev pub formats_of : (tag : ℕ) → ℤ → List ℤ → Given (formatted tag)
formats_of tag format formats = some (format, (items formats, tt))

-- an answer of one byte, which is all of it
abbrev pub lone : ℕ → Kind
lone byte = anonymous byte 1 1 []

-- ---- extendedquery.rs

unfoldable pub parse : List ℕ → List ℕ → List ℕ → Given K.parse
unfolding K.parse
parse name query oids = some (name, (query, (items oids, tt)))

unfoldable pub bind : List ℕ → List ℕ → List ℤ → List ℤ → List ℕ → List ℤ → Given K.bind
unfolding K.bind
bind portal statement formats lengths joined results =
    map (λ values. (portal, (statement, (items formats, (values, (items results, tt)))))) (values_given lengths joined)

unfoldable pub close : ℕ → List ℕ → Given K.close
unfolding K.close
close target name = some (target, (name, tt))

unfoldable pub describe : ℕ → List ℕ → Given K.describe
unfolding K.describe
describe target name = some (target, (name, tt))

unfoldable pub execute : List ℕ → ℤ → Given K.execute
unfolding K.execute
execute name rows = some (name, (rows, tt))

unfoldable pub flush : Given K.flush
unfolding K.flush
flush = some tt

unfoldable pub sync : Given K.sync
unfolding K.sync
sync = some tt

unfoldable pub parse_complete : Given K.parse_complete
unfolding K.parse_complete
parse_complete = some tt

unfoldable pub bind_complete : Given K.bind_complete
unfolding K.bind_complete
bind_complete = some tt

unfoldable pub close_complete : Given K.close_complete
unfolding K.close_complete
close_complete = some tt

unfoldable pub portal_suspended : Given K.portal_suspended
unfolding K.portal_suspended
portal_suspended = some tt

-- ---- copy.rs

unfoldable pub copy_data : List ℕ → Given K.copy_data
unfolding K.copy_data
copy_data bytes = some (bytes, tt)

unfoldable pub copy_done : Given K.copy_done
unfolding K.copy_done
copy_done = some tt

unfoldable pub copy_fail : List ℕ → Given K.copy_fail
unfolding K.copy_fail
copy_fail message = some (message, tt)

unfoldable pub copy_in_response : ℤ → List ℤ → Given K.copy_in_response
unfolding K.copy_in_response
copy_in_response format formats = some (format, (items formats, tt))

unfoldable pub copy_out_response : ℤ → List ℤ → Given K.copy_out_response
unfolding K.copy_out_response
copy_out_response format formats = some (format, (items formats, tt))

unfoldable pub copy_both_response : ℤ → List ℤ → Given K.copy_both_response
unfolding K.copy_both_response
copy_both_response format formats = some (format, (items formats, tt))

-- ---- data.rs

unfoldable pub row_description : List FieldDescription → List ℕ → Given K.row_description
unfolding K.row_description
row_description fields run = map (λ fs. (fs, tt)) (row_fields_given fields run)

unfoldable pub parameter_description : List ℕ → Given K.parameter_description
unfolding K.parameter_description
parameter_description types = some (items types, tt)

unfoldable pub data_row : List ℤ → List ℕ → Given K.data_row
unfolding K.data_row
data_row lengths joined = map (λ values. (values, tt)) (values_given lengths joined)

unfoldable pub no_data : Given K.no_data
unfolding K.no_data
no_data = some tt

-- ---- response.rs

unfoldable pub command_complete : List ℕ → Given K.command_complete
unfolding K.command_complete
command_complete tag = some (tag, tt)

unfoldable pub empty_query_response : Given K.empty_query_response
unfolding K.empty_query_response
empty_query_response = some tt

unfoldable pub ready_for_query : ℕ → Given K.ready_for_query
unfolding K.ready_for_query
ready_for_query status = some (status, tt)

-- an error and a notice are of one shape, as the kinds above
abbrev pub reported : ℕ → Kind
reported tag = anonymous tag 5 K.large (K.error_fields ∷ [])

abbrev pub report_of : (tag : ℕ) → List ℕ → List ℕ → List ℕ → Given (reported tag)
report_of tag codes lengths joined = map (λ fs. (fs, tt)) (error_fields_given codes lengths joined)

unfoldable pub error_response : List ℕ → List ℕ → List ℕ → Given K.error_response
unfolding K.error_response
error_response codes lengths joined = map (λ fs. (fs, tt)) (error_fields_given codes lengths joined)

unfoldable pub notice_response : List ℕ → List ℕ → List ℕ → Given K.notice_response
unfolding K.notice_response
notice_response codes lengths joined = map (λ fs. (fs, tt)) (error_fields_given codes lengths joined)

unfoldable pub notification_response : ℤ → List ℕ → List ℕ → Given K.notification_response
unfolding K.notification_response
notification_response pid channel payload = some (pid, (channel, (payload, tt)))

unfoldable pub ssl_response : (r : SslResponse) → Given (ssl_kind r)
unfolding K.ssl_accept K.ssl_refuse
ssl_response Ssl.Accept = some tt
ssl_response Ssl.Refuse = some tt

unfoldable pub gss_enc_response : (r : GssEncResponse) → Given (gss_kind r)
unfolding K.gss_accept K.gss_refuse
gss_enc_response Gss.Accept = some tt
gss_enc_response Gss.Refuse = some tt

-- ---- startup.rs

unfoldable pub startup : List ℕ → List ℕ → Given K.startup
unfolding K.startup
startup lengths joined = map (λ ps. (ps, tt)) (pairs_given lengths joined)

-- a request that is a length and a code alone
abbrev pub requested : ℕ → Kind
requested = shaped 8 []

unfoldable pub ssl_request : Given K.ssl_request
unfolding K.ssl_request
ssl_request = some tt

unfoldable pub gss_enc_request : Given K.gss_enc_request
unfolding K.gss_enc_request
gss_enc_request = some tt

unfoldable pub parameter_status : List ℕ → List ℕ → Given K.parameter_status
unfolding K.parameter_status
parameter_status name value = some (name, (value, tt))

unfoldable pub backend_key_data : ℤ → ℤ → Given K.backend_key_data
unfolding K.backend_key_data
backend_key_data pid key = some (pid, (key, tt))

-- ---- simplequery.rs

unfoldable pub query : List ℕ → Given K.query
unfolding K.query
query s = some (s, tt)

-- ---- terminate.rs

unfoldable pub terminate : Given K.terminate
unfolding K.terminate
terminate = some tt

-- ---- cancel.rs

unfoldable pub cancel_request : ℤ → ℤ → Given K.cancel_request
unfolding K.cancel_request
cancel_request pid key = some (pid, (key, tt))
