-- What an encoder wrote comes back under the names of its arguments: kind by kind, the encoder with its arguments, and beside it the record
-- that decoding gives, each field with the argument of its name. EncodeStatements (laws) says the round trip of contents, which are known by
-- their places; here the arguments alone are: which is which is read off the `ensures` line of the encoder, where `G.bind` and its like are
-- applied by position.
use Rattle.std.specs.Prelude.{ℕ, ◌+◌, ◌*◌, ◌≤◌, List, ◌++◌, ◌≡◌, ℤ, length, take, drop}
use Rattle.std.proofs.Math.Option.{Option, some, none}
use Rattle.protocol.specs.declared.Element.TheVariants as E
use Rattle.protocol.specs.declared.List.{List as ListSlot}
use Rattle.protocol.specs.declared.Message.TheVariants as M
use Rattle.protocol.specs.declared.Message.{Message}
use Rattle.protocol.specs.declared.Rules.{Rules}
use Rattle.protocol.specs.declared.Span.{Span}
use Rattle.protocol.specs.declared.cancel.CancelRequest.{CancelRequest}
use Rattle.protocol.specs.declared.copy.CopyBothResponse.{CopyBothResponse}
use Rattle.protocol.specs.declared.copy.CopyData.{CopyData}
use Rattle.protocol.specs.declared.copy.CopyFail.{CopyFail}
use Rattle.protocol.specs.declared.copy.CopyInResponse.{CopyInResponse}
use Rattle.protocol.specs.declared.copy.CopyOutResponse.{CopyOutResponse}
use Rattle.protocol.specs.declared.data.DataRow.{DataRow}
use Rattle.protocol.specs.declared.data.FieldDescription.{FieldDescription}
use Rattle.protocol.specs.declared.data.ParameterDescription.{ParameterDescription}
use Rattle.protocol.specs.declared.data.RowDescription.{RowDescription}
use Rattle.protocol.specs.declared.extendedquery.Bind.{Bind}
use Rattle.protocol.specs.declared.extendedquery.Close.{Close}
use Rattle.protocol.specs.declared.extendedquery.Describe.{Describe}
use Rattle.protocol.specs.declared.extendedquery.Execute.{Execute}
use Rattle.protocol.specs.declared.extendedquery.Parse.{Parse}
use Rattle.protocol.specs.declared.response.CommandComplete.{CommandComplete}
use Rattle.protocol.specs.declared.response.ErrorResponse.{ErrorResponse}
use Rattle.protocol.specs.declared.response.GssEncResponse.{GssEncResponse}
use Rattle.protocol.specs.declared.response.NoticeResponse.{NoticeResponse}
use Rattle.protocol.specs.declared.response.NotificationResponse.{NotificationResponse}
use Rattle.protocol.specs.declared.response.ReadyForQuery.{ReadyForQuery}
use Rattle.protocol.specs.declared.response.SslResponse.{SslResponse}
use Rattle.protocol.specs.declared.simplequery.Query.{Query}
use Rattle.protocol.specs.declared.startup.BackendKeyData.{BackendKeyData}
use Rattle.protocol.specs.declared.startup.ParameterStatus.{ParameterStatus}
use Rattle.protocol.specs.declared.startup.Startup.{Startup}
use Rattle.protocol.specs.Answers.{success, refusal, of_decoded, of_element, of_encoded}
use Rattle.protocol.specs.Bytes.{Bytes, part_of}
use Rattle.protocol.specs.Encode.{ssl_kind, gss_kind}
use Rattle.protocol.specs.Found.{Found}
use Rattle.protocol.specs.Kinds as K
use Rattle.protocol.specs.Kinds.{Kind, Mode, modes, IsIn}
use Rattle.protocol.specs.Refusals.{no_such_element}
use Rattle.protocol.specs.WellFormed.{Contents}
use Rattle.encode.specs.Given as G
use Rattle.laws.specs.Arguments.{nth, All, Unsigned, Signed, TypedField, itself, size_of, total, value_at}
use Rattle.laws.specs.EncodeStatements.{Encoder, the_encoder}
use Rattle.laws.specs.Statements.{Decoder, the_decoder, ElementCall, the_element_call}

-- what comes back: the bytes that were decoded, the message, and what an element call says of them by list number and element number
pub record Back : Type 0 where
  pub bytes : List ℕ
  pub message : Message
  pub element : ℕ → ℕ → Found

-- ---- one field

-- a string or a rest: the bytes at its position are the argument
abbrev pub Text : Back → Span → List ℕ → Type 0
Text b v given = part_of b.bytes v.start v.len ≡ given

-- list l has an element for each item of the argument, and element i is what the argument says of i; past them there is none
pub record ListIs {A : Type 0} (b : Back) (l : ℕ) (list : ListSlot) (given : List A) (Is : ℕ → A → Found → Type 0) : Type 0 where
  pub count : list.count ≡ length given
  pub element : (i : ℕ) (x : A) → nth given i ≡ some x → Is i x (b.element l i)
  pub past : (i : ℕ) → length given ≤ i → of_element (b.element l i) ≡ refusal no_such_element 0

abbrev pub Oids : Back → ℕ → ListSlot → List ℕ → Type 0
Oids b l list xs = ListIs b l list xs (λ i x e. of_element e ≡ success (E.Oid x) 0)

abbrev pub Formats : Back → ℕ → ListSlot → List ℤ → Type 0
Formats b l list zs = ListIs b l list zs (λ i z e. of_element e ≡ success (E.Format z) 0)

-- a value is NULL, or the bytes at its position are its own
abbrev pub ValueIs : Back → Option (List ℕ) → Found → Type 0
ValueIs b none e = of_element e ≡ success E.Null 0
ValueIs b (some own) e = (v : Span) × (of_element e ≡ success (E.Value v) 0) × Text b v own

-- value i is NULL exactly where length i is -1, else the bytes of the joined run after the earlier lengths, NULL as 0
abbrev pub Values : Back → ℕ → ListSlot → List ℤ → List ℕ → Type 0
Values b l list lengths joined = ListIs b l list lengths (λ i z e. ValueIs b (value_at z (total size_of (take i lengths)) joined) e)

-- a row's field: its numbers are the argument's, and the bytes at its name are those of the run at the argument's name
pub record FieldIs (b : Back) (run : List ℕ) (d : FieldDescription) (e : Found) : Type 0 where
  pub field : FieldDescription
  pub is : of_element e ≡ success (E.Field field) 0
  pub name : Text b field.name (part_of run d.name.start d.name.len)
  pub table_id : field.table_id ≡ d.table_id
  pub column_id : field.column_id ≡ d.column_id
  pub type_id : field.type_id ≡ d.type_id
  pub type_size : field.type_size ≡ d.type_size
  pub type_modifier : field.type_modifier ≡ d.type_modifier
  pub format_code : field.format_code ≡ d.format_code

abbrev pub RowFields : Back → ℕ → ListSlot → List FieldDescription → List ℕ → Type 0
RowFields b l list fields run = ListIs b l list fields (λ i d e. FieldIs b run d e)

-- an error's field: its code, and the bytes of the joined run after the earlier lengths
abbrev pub ErrorFieldIs : Back → ℕ → List ℕ → Found → Type 0
ErrorFieldIs b code own e = (v : Span) × (of_element e ≡ success (E.ErrorField code v) 0) × Text b v own

abbrev pub ErrorFields : Back → ℕ → ListSlot → List ℕ → List ℕ → List ℕ → Type 0
ErrorFields b l list codes lengths joined =
    ListIs b l list codes
    (λ i code e. (n : ℕ) → nth lengths i ≡ some n → ErrorFieldIs b code (take n (drop (total itself (take i lengths)) joined)) e)

-- start-up arguments: one for each two lengths, its name and its value the bytes of the joined run after the earlier lengths
abbrev pub PairIs : Back → List ℕ → List ℕ → Found → Type 0
PairIs b name own e = (n : Span) × (v : Span) × (of_element e ≡ success (E.Pair n v) 0) × Text b n name × Text b v own

pub record Pairs (b : Back) (l : ℕ) (list : ListSlot) (lengths joined : List ℕ) : Type 0 where
  pub count : length lengths ≡ 2 * list.count
  pub element : (i name value : ℕ) → nth lengths (2 * i) ≡ some name → nth lengths (2 * i + 1) ≡ some value
      → PairIs b (take name (drop (total itself (take (2 * i) lengths)) joined)) (take value (drop (total itself (take (2 * i + 1) lengths)) joined)) (b.element l i)
  pub past : (i : ℕ) → length lengths ≤ 2 * i → of_element (b.element l i) ≡ refusal no_such_element 0

-- ---- what an encoder wrote

pub record Codec : Type 0 where
  pub encode : Encoder
  pub decode : Decoder
  pub element : ElementCall

abbrev pub the_codec : Codec
the_codec = record { encode = the_encoder; decode = the_decoder; element = the_element_call }

-- what an encoder of the kind k wrote of what it was given, followed by any bytes, decodes, in every mode that has the kind, to a message for
-- which there is a record r with `Named`; and its own bytes are consumed
pub record ComesBack (codec : Codec) (k : Kind) (given : Option (Contents k)) (R : Type 0) (Named : Back → R → Type 0) : Type 0 where
  pub comes :
      (m : Mode) (out t : List ℕ) (n : ℕ) → IsIn m modes → IsIn k m.kinds → of_encoded (codec.encode m k given out).answer ≡ success tt n
      → (rules : Rules) (reads : Mode) → IsIn reads modes → reads.mode ≡ rules.mode → IsIn k reads.kinds
      → let s = take n (codec.encode m k given out).output ++ t in
      (message : Message) × (r : R)
      × (of_decoded (codec.decode rules s) ≡ success message n)
      × Named (record { bytes = s; message = message; element = codec.element rules s }) r

-- a kind with no field comes back as its message
abbrev pub Bare : Message → Back → Unit {0} → Type 0
Bare message b r = b.message ≡ message

pub record ByName (codec : Codec) : Type 0 where
  -- ---- extendedquery.rs

  pub parse : (name query type_oids : List ℕ) → Bytes name → Bytes query → All (Unsigned 4) type_oids
      → ComesBack codec K.parse (G.parse name query type_oids) Parse
      (λ b r. (b.message ≡ M.Parse r)
      × Text b r.name name
      × Text b r.query query
      × Oids b 0 r.type_oids type_oids)
  pub parse_complete : ComesBack codec K.parse_complete G.parse_complete (Unit {0}) (Bare M.ParseComplete)
  pub close : (target_type : ℕ) (name : List ℕ) → Unsigned 1 target_type → Bytes name
      → ComesBack codec K.close (G.close target_type name) Close
      (λ b r. (b.message ≡ M.Close r)
      × (r.target_type ≡ target_type)
      × Text b r.name name)
  pub close_complete : ComesBack codec K.close_complete G.close_complete (Unit {0}) (Bare M.CloseComplete)
  pub bind : (portal_name statement_name : List ℕ) (parameter_format_codes lengths : List ℤ) (joined : List ℕ)
      (result_column_format_codes : List ℤ)
      → Bytes portal_name → Bytes statement_name → All (Signed 2) parameter_format_codes → All (Signed 4) lengths → Bytes joined
      → All (Signed 2) result_column_format_codes
      → ComesBack codec K.bind
      (G.bind portal_name statement_name parameter_format_codes lengths joined result_column_format_codes) Bind
      (λ b r. (b.message ≡ M.Bind r)
      × Text b r.portal_name portal_name
      × Text b r.statement_name statement_name
      × Formats b 0 r.parameter_format_codes parameter_format_codes
      × Values b 1 r.parameters lengths joined
      × Formats b 2 r.result_column_format_codes result_column_format_codes)
  pub bind_complete : ComesBack codec K.bind_complete G.bind_complete (Unit {0}) (Bare M.BindComplete)
  pub describe : (target_type : ℕ) (name : List ℕ) → Unsigned 1 target_type → Bytes name
      → ComesBack codec K.describe (G.describe target_type name) Describe
      (λ b r. (b.message ≡ M.Describe r)
      × (r.target_type ≡ target_type)
      × Text b r.name name)
  pub execute : (name : List ℕ) (max_rows : ℤ) → Bytes name → Signed 4 max_rows
      → ComesBack codec K.execute (G.execute name max_rows) Execute
      (λ b r. (b.message ≡ M.Execute r)
      × Text b r.name name
      × (r.max_rows ≡ max_rows))
  pub flush : ComesBack codec K.flush G.flush (Unit {0}) (Bare M.Flush)
  pub sync : ComesBack codec K.sync G.sync (Unit {0}) (Bare M.Sync)
  pub portal_suspended : ComesBack codec K.portal_suspended G.portal_suspended (Unit {0}) (Bare M.PortalSuspended)
  -- ---- copy.rs

  pub copy_data : («data» : List ℕ) → Bytes «data»
      → ComesBack codec K.copy_data (G.copy_data «data») CopyData
      (λ b r. (b.message ≡ M.CopyData r)
      × Text b r.«data» «data»)
  pub copy_done : ComesBack codec K.copy_done G.copy_done (Unit {0}) (Bare M.CopyDone)
  pub copy_fail : (message : List ℕ) → Bytes message
      → ComesBack codec K.copy_fail (G.copy_fail message) CopyFail
      (λ b r. (b.message ≡ M.CopyFail r)
      × Text b r.message message)
  pub copy_in_response : (format : ℤ) (column_formats : List ℤ) → Signed 1 format → All (Signed 2) column_formats
      → ComesBack codec K.copy_in_response (G.copy_in_response format column_formats) CopyInResponse
      (λ b r. (b.message ≡ M.CopyInResponse r)
      × (r.format ≡ format)
      × Formats b 0 r.column_formats column_formats)
  pub copy_out_response : (format : ℤ) (column_formats : List ℤ) → Signed 1 format → All (Signed 2) column_formats
      → ComesBack codec K.copy_out_response (G.copy_out_response format column_formats) CopyOutResponse
      (λ b r. (b.message ≡ M.CopyOutResponse r)
      × (r.format ≡ format)
      × Formats b 0 r.column_formats column_formats)
  pub copy_both_response : (format : ℤ) (column_formats : List ℤ) → Signed 1 format → All (Signed 2) column_formats
      → ComesBack codec K.copy_both_response (G.copy_both_response format column_formats) CopyBothResponse
      (λ b r. (b.message ≡ M.CopyBothResponse r)
      × (r.format ≡ format)
      × Formats b 0 r.column_formats column_formats)
  -- ---- data.rs

  pub row_description : (fields : List FieldDescription) (run : List ℕ) → All TypedField fields → Bytes run
      → ComesBack codec K.row_description (G.row_description fields run) RowDescription
      (λ b r. (b.message ≡ M.RowDescription r)
      × RowFields b 0 r.fields fields run)
  pub parameter_description : (types : List ℕ) → All (Unsigned 4) types
      → ComesBack codec K.parameter_description (G.parameter_description types) ParameterDescription
      (λ b r. (b.message ≡ M.ParameterDescription r)
      × Oids b 0 r.types types)
  pub data_row : (lengths : List ℤ) (joined : List ℕ) → All (Signed 4) lengths → Bytes joined
      → ComesBack codec K.data_row (G.data_row lengths joined) DataRow
      (λ b r. (b.message ≡ M.DataRow r)
      × Values b 0 r.«data» lengths joined)
  pub no_data : ComesBack codec K.no_data G.no_data (Unit {0}) (Bare M.NoData)
  -- ---- response.rs

  pub command_complete : (tag : List ℕ) → Bytes tag
      → ComesBack codec K.command_complete (G.command_complete tag) CommandComplete
      (λ b r. (b.message ≡ M.CommandComplete r)
      × Text b r.tag tag)
  pub empty_query_response : ComesBack codec K.empty_query_response G.empty_query_response (Unit {0}) (Bare M.EmptyQueryResponse)
  pub ready_for_query : (status : ℕ) → Unsigned 1 status
      → ComesBack codec K.ready_for_query (G.ready_for_query status) ReadyForQuery
      (λ b r. (b.message ≡ M.ReadyForQuery r)
      × (r.status ≡ status))
  pub error_response : (codes lengths joined : List ℕ) → Bytes codes → Bytes joined
      → ComesBack codec K.error_response (G.error_response codes lengths joined) ErrorResponse
      (λ b r. (b.message ≡ M.ErrorResponse r)
      × ErrorFields b 0 r.fields codes lengths joined)
  pub notice_response : (codes lengths joined : List ℕ) → Bytes codes → Bytes joined
      → ComesBack codec K.notice_response (G.notice_response codes lengths joined) NoticeResponse
      (λ b r. (b.message ≡ M.NoticeResponse r)
      × ErrorFields b 0 r.fields codes lengths joined)
  pub notification_response : (pid : ℤ) (channel payload : List ℕ) → Signed 4 pid → Bytes channel → Bytes payload
      → ComesBack codec K.notification_response (G.notification_response pid channel payload) NotificationResponse
      (λ b r. (b.message ≡ M.NotificationResponse r)
      × (r.pid ≡ pid)
      × Text b r.channel channel
      × Text b r.payload payload)
  pub ssl_response : (response : SslResponse)
      → ComesBack codec (ssl_kind response) (G.ssl_response response) (Unit {0}) (Bare (M.SslResponse response))
  pub gss_enc_response : (response : GssEncResponse)
      → ComesBack codec (gss_kind response) (G.gss_enc_response response) (Unit {0}) (Bare (M.GssEncResponse response))
  -- ---- cancel.rs

  pub cancel_request : (pid secret_key : ℤ) → Signed 4 pid → Signed 4 secret_key
      → ComesBack codec K.cancel_request (G.cancel_request pid secret_key) CancelRequest
      (λ b r. (b.message ≡ M.CancelRequest r)
      × (r.pid ≡ pid)
      × (r.secret_key ≡ secret_key))
  -- ---- startup.rs

  pub startup : (lengths joined : List ℕ) → Bytes joined
      → ComesBack codec K.startup (G.startup lengths joined) Startup
      (λ b r. (b.message ≡ M.Startup r)
      × Pairs b 0 r.parameters lengths joined)
  pub ssl_request : ComesBack codec K.ssl_request G.ssl_request (Unit {0}) (Bare M.SslRequest)
  pub gss_enc_request : ComesBack codec K.gss_enc_request G.gss_enc_request (Unit {0}) (Bare M.GssEncRequest)
  pub parameter_status : (name value : List ℕ) → Bytes name → Bytes value
      → ComesBack codec K.parameter_status (G.parameter_status name value) ParameterStatus
      (λ b r. (b.message ≡ M.ParameterStatus r)
      × Text b r.name name
      × Text b r.value value)
  pub backend_key_data : (pid secret_key : ℤ) → Signed 4 pid → Signed 4 secret_key
      → ComesBack codec K.backend_key_data (G.backend_key_data pid secret_key) BackendKeyData
      (λ b r. (b.message ≡ M.BackendKeyData r)
      × (r.pid ≡ pid)
      × (r.secret_key ≡ secret_key))
  -- ---- simplequery.rs

  pub query : (query : List ℕ) → Bytes query
      → ComesBack codec K.query (G.query query) Query
      (λ b r. (b.message ≡ M.Query r)
      × Text b r.query query)
  -- ---- terminate.rs

  pub terminate : ComesBack codec K.terminate G.terminate (Unit {0}) (Bare M.Terminate)
