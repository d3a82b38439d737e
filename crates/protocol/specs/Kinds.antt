-- The tables of kinds (docs/FORMAT.md 2 and 4), a line for each kind: name, type byte, smallest length, limit, number at the boundary, and body. The
-- records are made in Records.
use Prim.Native.Char.{Char, code}
use Rattle.std.specs.Prelude.{ℕ, ◌+◌, cond, List, [], ◌∷◌, ◌⊎◌, ◌≡◌, eqb}
use Prim.Native.String.{String}
use Rattle.std.proofs.Math.Option.{Option, some, none}
use Rattle.protocol.specs.declared.Element.TheVariants as E
use Rattle.protocol.specs.declared.Element.{Element}
use Rattle.protocol.specs.declared.Message.{Message}
use Rattle.protocol.specs.declared.Rules.{Rules}
use Rattle.protocol.specs.declared.Span.{Span}
use Rattle.protocol.specs.declared.data.FieldDescription.{FieldDescription}
use Rattle.protocol.specs.Each.{Each}
use Rattle.protocol.specs.Fields.{Atom, unsigned, signed, one_of, text, value, rest, AtomSlot, Item, Count, signed_count, unsigned_count, Field, one, counted, ended, Slot}
use Rattle.protocol.specs.Records as R

-- how a frame is framed: by a type byte and a length, by a length and a code, or as one byte alone
pub data Envelope : Type 0 where
  typed untyped bare : Envelope

-- what is made of a body's slots, field by field
abbrev pub Made : List Field → Type 0
Made [] = Message
Made (x ∷ xs) = Slot x → Made xs

abbrev made_of : (body : List Field) → Made body → Each Slot body → Message
made_of [] make s = make
made_of (x ∷ xs) make s = made_of xs (make s.0) s.1

-- a row: the Rust's name; what tells the kind (a type byte, a code or the one byte); smallest length; limit; its number at the boundary for other
-- languages, with an answer's own behind it; body; and the record of what is read
pub record Kind : Type 0 where
  pub name : String
  pub tag : ℕ
  pub smallest : ℕ
  pub limit : ℕ
  pub numbers : List ℕ
  pub body : List Field
  pub message : Each Slot body → Message

abbrev row : String → ℕ → ℕ → ℕ → List ℕ → (body : List Field) → Made body → Kind
row name tag smallest limit numbers body make = record {
  name = name;
  tag = tag;
  smallest = smallest;
  limit = limit;
  numbers = numbers;
  body = body;
  message = made_of body make;
}

abbrev kind : String → Char → ℕ → ℕ → ℕ → (body : List Field) → Made body → Kind
kind name type smallest limit number body make = row name (code type) smallest limit (number ∷ []) body make

abbrev answer : String → Char → List ℕ → Message → Kind
answer name byte numbers message = row name (code byte) 1 1 numbers [] message

-- ---- limits and the words of the tables

abbrev pub large : ℕ
large = 1048576

abbrev pub small : ℕ
small = 8192

-- the bytes of the longest frame with each limit: a type byte is not counted by the length
abbrev pub large_frame : ℕ
large_frame = 1 + large

abbrev pub small_frame : ℕ
small_frame = 1 + small

abbrev pub string : Field
string = one text

abbrev pub the_rest : Field
the_rest = one rest

abbrev pub i8 : Field
i8 = one (signed 1)

abbrev pub i32 : Field
i32 = one (signed 4)

abbrev pub targets : List ℕ
targets = code "S" ∷ code "P" ∷ []

abbrev pub target : Field
target = one (one_of targets)

abbrev pub statuses : List ℕ
statuses = code "I" ∷ code "T" ∷ code "E" ∷ []

abbrev pub status : Field
status = one (one_of statuses)

-- a value's element: NULL, or where it stands
unfoldable pub value_element : Option Span → Element
value_element none = E.Null
value_element (some s) = E.Value s

abbrev pub oid : Item
oid = record { atoms = unsigned 4 ∷ []; element = λ s. E.Oid s.0 }

abbrev pub format : Item
format = record { atoms = signed 2 ∷ []; element = λ s. E.Format s.0 }

abbrev pub nullable : Item
nullable = record { atoms = value ∷ []; element = λ s. value_element s.0 }

-- name, table i32, column i16, type u32, size i16, modifier i32, format i16
abbrev pub row_field_atoms : List Atom
row_field_atoms = text ∷ signed 4 ∷ signed 2 ∷ unsigned 4 ∷ signed 2 ∷ signed 4 ∷ signed 2 ∷ []

abbrev pub row_field_of : Each AtomSlot row_field_atoms → FieldDescription
row_field_of s = record {
  name = s.0;
  table_id = s.1.0;
  column_id = s.1.1.0;
  type_id = s.1.1.1.0;
  type_size = s.1.1.1.1.0;
  type_modifier = s.1.1.1.1.1.0;
  format_code = s.1.1.1.1.1.1.0;
}

abbrev pub row_field : Item
row_field = record { atoms = row_field_atoms; element = λ s. E.Field (row_field_of s) }

-- a code byte, a string
abbrev pub error_field : Item
error_field = record { atoms = unsigned 1 ∷ text ∷ []; element = λ s. E.ErrorField s.0 s.1.0 }

-- a start-up argument: its name, its value
abbrev pub pair : Item
pair = record { atoms = text ∷ text ∷ []; element = λ s. E.Pair s.0 s.1.0 }

-- lists with a count before them, which a row says how to read
abbrev pub oids : Count → Field
oids k = counted k oid

abbrev pub formats : Count → Field
formats k = counted k format

abbrev pub values : Count → Field
values k = counted k nullable

abbrev pub row_fields : Count → Field
row_fields k = counted k row_field

abbrev pub error_fields : Field
error_fields = ended error_field

abbrev pub pairs : Field
pairs = ended pair

-- ---- frontend, mode 0

unfoldable pub parse : Kind
parse = kind "Parse" "P" 8 large 1 (string ∷ string ∷ oids unsigned_count ∷ []) R.parse

unfoldable pub bind : Kind
bind = kind "Bind" "B" 12 large 2 (string ∷ string ∷ formats unsigned_count ∷ values unsigned_count ∷ formats unsigned_count ∷ []) R.bind

unfoldable pub close : Kind
close = kind "Close" "C" 6 small 3 (target ∷ string ∷ []) R.close

unfoldable pub describe : Kind
describe = kind "Describe" "D" 6 small 4 (target ∷ string ∷ []) R.describe

unfoldable pub execute : Kind
execute = kind "Execute" "E" 9 small 5 (string ∷ i32 ∷ []) R.execute

unfoldable pub flush : Kind
flush = kind "Flush" "H" 4 small 6 [] R.flush

unfoldable pub sync : Kind
sync = kind "Sync" "S" 4 small 7 [] R.sync

unfoldable pub copy_done : Kind
copy_done = kind "CopyDone" "c" 4 small 8 [] R.copy_done

unfoldable pub copy_data : Kind
copy_data = kind "CopyData" "d" 4 large 9 (the_rest ∷ []) R.copy_data

unfoldable pub copy_fail : Kind
copy_fail = kind "CopyFail" "f" 5 small 10 (string ∷ []) R.copy_fail

unfoldable pub query : Kind
query = kind "Query" "Q" 5 small 34 (string ∷ []) R.query

unfoldable pub terminate : Kind
terminate = kind "Terminate" "X" 4 small 35 [] R.terminate

-- ---- backend, mode 1

unfoldable pub parse_complete : Kind
parse_complete = kind "ParseComplete" "1" 4 small 11 [] R.parse_complete

unfoldable pub bind_complete : Kind
bind_complete = kind "BindComplete" "2" 4 small 12 [] R.bind_complete

unfoldable pub close_complete : Kind
close_complete = kind "CloseComplete" "3" 4 small 13 [] R.close_complete

unfoldable pub portal_suspended : Kind
portal_suspended = kind "PortalSuspended" "s" 4 small 14 [] R.portal_suspended

unfoldable pub no_data : Kind
no_data = kind "NoData" "n" 4 small 15 [] R.no_data

unfoldable pub empty_query_response : Kind
empty_query_response = kind "EmptyQueryResponse" "I" 4 small 16 [] R.empty_query_response

unfoldable pub row_description : Kind
row_description = kind "RowDescription" "T" 6 large 17 (row_fields signed_count ∷ []) R.row_description

unfoldable pub parameter_description : Kind
parameter_description = kind "ParameterDescription" "t" 6 large 18 (oids unsigned_count ∷ []) R.parameter_description

unfoldable pub data_row : Kind
data_row = kind "DataRow" "D" 6 large 19 (values signed_count ∷ []) R.data_row

unfoldable pub command_complete : Kind
command_complete = kind "CommandComplete" "C" 5 small 20 (string ∷ []) R.command_complete

unfoldable pub ready_for_query : Kind
ready_for_query = kind "ReadyForQuery" "Z" 5 small 21 (status ∷ []) R.ready_for_query

unfoldable pub error_response : Kind
error_response = kind "ErrorResponse" "E" 5 large 22 (error_fields ∷ []) R.error_response

unfoldable pub notice_response : Kind
notice_response = kind "NoticeResponse" "N" 5 large 23 (error_fields ∷ []) R.notice_response

unfoldable pub copy_in_response : Kind
copy_in_response = kind "CopyInResponse" "G" 7 small 24 (i8 ∷ formats signed_count ∷ []) R.copy_in_response

unfoldable pub copy_out_response : Kind
copy_out_response = kind "CopyOutResponse" "H" 7 small 25 (i8 ∷ formats signed_count ∷ []) R.copy_out_response

unfoldable pub copy_both_response : Kind
copy_both_response = kind "CopyBothResponse" "W" 7 small 26 (i8 ∷ formats signed_count ∷ []) R.copy_both_response

unfoldable pub notification_response : Kind
notification_response = kind "NotificationResponse" "A" 10 large 27 (i32 ∷ string ∷ string ∷ []) R.notification_response

unfoldable pub parameter_status : Kind
parameter_status = kind "ParameterStatus" "S" 6 small 36 (string ∷ string ∷ []) R.parameter_status

unfoldable pub backend_key_data : Kind
backend_key_data = kind "BackendKeyData" "K" 12 small 37 (i32 ∷ i32 ∷ []) R.backend_key_data

-- ---- first packet, mode 5: told by a word after the length, which counts itself, the word and the body. Mode 2 has the cancel request alone

unfoldable pub startup : Kind
startup = row "Startup" 196608 9 small (31 ∷ []) (pairs ∷ []) R.startup

unfoldable pub ssl_request : Kind
ssl_request = row "SslRequest" 80877103 8 small (32 ∷ []) [] R.ssl_request

unfoldable pub gss_enc_request : Kind
gss_enc_request = row "GssEncRequest" 80877104 8 small (33 ∷ []) [] R.gss_enc_request

unfoldable pub cancel_request : Kind
cancel_request = row "CancelRequest" 80877102 16 small (28 ∷ []) (i32 ∷ i32 ∷ []) R.cancel_request

-- ---- TLS and GSS answers, modes 3 and 4: one byte, which has a number of its own at the boundary, 0 to accept and 1 to refuse

unfoldable pub ssl_accept : Kind
ssl_accept = answer "SslResponse" "S" (29 ∷ 0 ∷ []) R.ssl_accept

unfoldable pub ssl_refuse : Kind
ssl_refuse = answer "SslResponse" "N" (29 ∷ 1 ∷ []) R.ssl_refuse

unfoldable pub gss_accept : Kind
gss_accept = answer "GssEncResponse" "G" (30 ∷ 0 ∷ []) R.gss_accept

unfoldable pub gss_refuse : Kind
gss_refuse = answer "GssEncResponse" "N" (30 ∷ 1 ∷ []) R.gss_refuse

-- ---- modes

pub record Mode : Type 0 where
  pub mode : ℕ
  pub envelope : Envelope
  pub kinds : List Kind

unfoldable pub frontend : Mode
frontend = record {
  mode = 0;
  envelope = typed;
  kinds =
      parse ∷ bind ∷ close ∷ describe ∷ execute ∷ flush ∷ sync ∷ copy_done ∷ copy_data ∷ copy_fail ∷ query
      ∷ terminate ∷ [];
}

unfoldable pub backend : Mode
backend = record {
  mode = 1;
  envelope = typed;
  kinds =
      parse_complete ∷ bind_complete ∷ close_complete ∷ portal_suspended ∷ no_data ∷ empty_query_response ∷ copy_done
      ∷ row_description ∷ parameter_description ∷ data_row ∷ command_complete ∷ ready_for_query ∷ error_response ∷ notice_response
      ∷ copy_in_response ∷ copy_out_response ∷ copy_both_response ∷ notification_response ∷ copy_data ∷ parameter_status
      ∷ backend_key_data ∷ [];
}

unfoldable pub cancel : Mode
cancel = record { mode = 2; envelope = untyped; kinds = cancel_request ∷ [] }

unfoldable pub tls_answer : Mode
tls_answer = record { mode = 3; envelope = bare; kinds = ssl_accept ∷ ssl_refuse ∷ [] }

unfoldable pub gss_answer : Mode
gss_answer = record { mode = 4; envelope = bare; kinds = gss_accept ∷ gss_refuse ∷ [] }

unfoldable pub first_packet : Mode
first_packet = record {
  mode = 5;
  envelope = untyped;
  kinds = startup ∷ ssl_request ∷ gss_enc_request ∷ cancel_request ∷ [];
}

abbrev pub modes : List Mode
modes = frontend ∷ backend ∷ cancel ∷ tls_answer ∷ gss_answer ∷ first_packet ∷ []

-- the modes and their kinds, to open together: to unfold this is to unfold all of them
unfoldable pub the_table : Unit {0}
unfolding frontend backend cancel tls_answer gss_answer first_packet parse bind close describe execute flush sync copy_done copy_data copy_fail parse_complete bind_complete close_complete portal_suspended no_data empty_query_response row_description parameter_description data_row command_complete ready_for_query error_response notice_response copy_in_response copy_out_response copy_both_response notification_response cancel_request ssl_accept ssl_refuse gss_accept gss_refuse startup ssl_request gss_enc_request query terminate parameter_status backend_key_data
the_table = tt

-- ---- finding a row

-- x is one of a list
abbrev pub IsIn : {A : Type 0} → A → List A → Type 0
IsIn x [] = ⊥
IsIn x (y ∷ ys) = (x ≡ y) ⊎ IsIn x ys

-- the first of a list whose key is k
unfoldable pub find : {A : Type 0} → (A → ℕ) → ℕ → List A → Option A
find key k [] = none
find key k (x ∷ xs) = cond (eqb k (key x)) (some x) (find key k xs)

unfoldable pub mode_of : Rules → Option Mode
mode_of rules = find (λ (m : Mode). m.mode) rules.mode modes

-- the kind of a mode that a type byte, a code or an answer byte tells
unfoldable pub kind_in : Mode → ℕ → Option Kind
kind_in m tag = find (λ (k : Kind). k.tag) tag m.kinds
