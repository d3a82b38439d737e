-- What a call of an encoder asks for, by the number of the kind's row; the number that is answered, and what the output then holds.
use Rattle.std.specs.Prelude.{ℕ, ◌-◌, true, cond, List, [], ◌∷◌, ◌++◌, map, ◌≡◌, ltb, ℤ, pos, length}
use Rattle.std.proofs.Math.Option.{Option, some, none}
use Rattle.protocol.specs.Encoded as N
use Rattle.protocol.specs.Encoded.{Encoded}
use Rattle.protocol.specs.declared.data.FieldDescription.{FieldDescription}
use Rattle.protocol.specs.declared.response.GssEncResponse.TheVariants as Gss
use Rattle.protocol.specs.declared.response.SslResponse.TheVariants as Ssl
use Rattle.protocol.specs.Bytes.{is_one_of}
use Rattle.protocol.specs.Encode.{encoded_by, written_by}
use Rattle.protocol.specs.Kinds as K
use Rattle.protocol.specs.Kinds.{Kind, Mode, modes, IsIn, find}
use Rattle.protocol.specs.Refusals.{type_unknown}
use Rattle.protocol.specs.Views.{kind_number}
use Rattle.protocol.specs.WellFormed.{Contents}
use Rattle.host_layout.specs.LaidOut.{own_number}
use Rattle.encode.specs.Given as G

-- a kind in a mode, with the content that the arguments are, if they are one
pub record Asked : Type 0 where
  pub mode : Mode
  pub kind : Kind
  pub given : Option (Contents kind)

-- a number, and what it asks for
pub record Row : Type 0 where
  pub number : ℕ
  pub asks : Option Asked

abbrev asks : Mode → (k : Kind) → Option (Contents k) → Option Asked
asks m k given = some (record { mode = m; kind = k; given = given })

abbrev row : Mode → (k : Kind) → Option (Contents k) → Row
row m k given = record { number = kind_number k; asks = asks m k given }

-- a TLS or GSS answer by its own number: 0 accept, 1 refuse
abbrev answer_row : Mode → (k : Kind) → Option (Contents k) → Row
answer_row m k given = record { number = own_number k; asks = asks m k given }

abbrev pub row_number : Row → ℕ
row_number r = r.number

abbrev pub asks_of : Option Row → Option Asked
asks_of none = none
asks_of (some r) = r.asks

-- what a number asks for by a table; none where it is not there
unfoldable pub asked_in : List Row → ℕ → Option Asked
asked_in rows n = asks_of (find row_number n rows)

-- ---- kinds without a list

abbrev pub ssl_rows : List Row
ssl_rows = answer_row K.tls_answer K.ssl_accept (G.ssl_response Ssl.Accept) ∷ answer_row K.tls_answer K.ssl_refuse (G.ssl_response Ssl.Refuse) ∷ []

abbrev pub gss_rows : List Row
gss_rows = answer_row K.gss_answer K.gss_accept (G.gss_enc_response Gss.Accept) ∷ answer_row K.gss_answer K.gss_refuse (G.gss_enc_response Gss.Refuse) ∷ []

-- kinds with fields. CopyData and CopyDone are the same bytes in either direction, and a cancel request in either mode
abbrev pub field_rows : ℕ → ℤ → ℤ → List ℕ → List ℕ → List Row
field_rows byte first second one two =
    row K.frontend K.close (G.close byte one)
    ∷ row K.frontend K.describe (G.describe byte one)
    ∷ row K.frontend K.execute (G.execute one first)
    ∷ row K.frontend K.copy_data (G.copy_data one)
    ∷ row K.frontend K.copy_fail (G.copy_fail one)
    ∷ row K.backend K.command_complete (G.command_complete one)
    ∷ row K.backend K.ready_for_query (G.ready_for_query byte)
    ∷ row K.backend K.notification_response (G.notification_response first one two)
    ∷ row K.cancel K.cancel_request (G.cancel_request first second)
    ∷ record { number = kind_number K.ssl_accept; asks = asked_in ssl_rows byte }
    ∷ record { number = kind_number K.gss_accept; asks = asked_in gss_rows byte }
    ∷ row K.frontend K.query (G.query one)
    ∷ row K.backend K.parameter_status (G.parameter_status one two)
    ∷ row K.backend K.backend_key_data (G.backend_key_data first second) ∷ []

abbrev pub bare_rows : List Row
bare_rows =
    row K.frontend K.flush G.flush
    ∷ row K.frontend K.sync G.sync
    ∷ row K.frontend K.copy_done G.copy_done
    ∷ row K.backend K.parse_complete G.parse_complete
    ∷ row K.backend K.bind_complete G.bind_complete
    ∷ row K.backend K.close_complete G.close_complete
    ∷ row K.backend K.portal_suspended G.portal_suspended
    ∷ row K.backend K.no_data G.no_data
    ∷ row K.backend K.empty_query_response G.empty_query_response
    ∷ row K.first_packet K.ssl_request G.ssl_request
    ∷ row K.first_packet K.gss_enc_request G.gss_enc_request
    ∷ row K.frontend K.terminate G.terminate ∷ []

abbrev pub asked : ℕ → ℕ → ℤ → ℤ → List ℕ → List ℕ → Option Asked
asked kind byte first second one two = asked_in (field_rows byte first second one two ++ bare_rows) kind

-- ---- kinds with a list of numbers, values or strings

abbrev pub list_rows : ℤ → List ℕ → List ℕ → List ℕ → List ℕ → List ℤ → List ℤ → List ℤ → List Row
list_rows format one two joined words lengths formats results =
    row K.frontend K.parse (G.parse one two words)
    ∷ row K.frontend K.bind (G.bind one two formats lengths joined results)
    ∷ row K.backend K.parameter_description (G.parameter_description words)
    ∷ row K.backend K.data_row (G.data_row lengths joined)
    ∷ row K.backend K.error_response (G.error_response one words joined)
    ∷ row K.backend K.notice_response (G.notice_response one words joined)
    ∷ row K.backend K.copy_in_response (G.copy_in_response format formats)
    ∷ row K.backend K.copy_out_response (G.copy_out_response format formats)
    ∷ row K.backend K.copy_both_response (G.copy_both_response format formats)
    ∷ row K.first_packet K.startup (G.startup words joined) ∷ []

abbrev pub asked_lists : ℕ → ℤ → List ℕ → List ℕ → List ℕ → List ℕ → List ℤ → List ℤ → List ℤ → Option Asked
asked_lists kind format one two joined words lengths formats results = asked_in (list_rows format one two joined words lengths formats results) kind

-- ---- a row's description

abbrev pub asked_row : List FieldDescription → List ℕ → Option Asked
asked_row fields run = asks K.backend K.row_description (G.row_description fields run)

-- ---- no kind is left out

-- the numbers that some call knows, whatever its other arguments are
abbrev pub asked_numbers : List ℕ
asked_numbers =
    map row_number (field_rows 0 (pos 0) (pos 0) [] [] ++ bare_rows ++ list_rows (pos 0) [] [] [] [] [] [] []) ++ kind_number K.row_description ∷ []

-- every row of the table of kinds can be asked for
abbrev pub EveryKindAsked : Type 0
EveryKindAsked = (m : Mode) → IsIn m modes → (k : Kind) → IsIn k m.kinds → is_one_of (kind_number k) asked_numbers ≡ true

-- ---- the answer and the output

-- what is not known is refused as an unknown type or answer byte; else the encoders' own answer
unfoldable pub encoded_as : Option Asked → ℕ → Encoded
encoded_as none room = N.Refused type_unknown 0
encoded_as (some a) room = encoded_by a.mode a.kind a.given room

unfoldable pub written_as : Option Asked → Encoded → List ℕ → List ℕ
written_as none r out = out
written_as (some a) r out = written_by a.mode a.kind a.given r out

-- the bytes written; or the largest number less the refusal's number. The refusal's place is left out: an encoder's is always 0
abbrev pub answer_number : Encoded → ℕ
answer_number (N.Done n) = n
answer_number (N.Refused number place) = 18446744073709551615 - number

-- how a host reads that number: the last 256 numbers are refusals
abbrev pub answer_by : ℕ → Encoded
answer_by n = cond (ltb n 18446744073709551360) (N.Done n) (N.Refused (18446744073709551615 - n) 0)

abbrev pub answer_of : Option Asked → List ℕ → ℕ
answer_of a out = answer_number (encoded_as a (length out))

abbrev pub left_of : Option Asked → List ℕ → List ℕ
left_of a out = written_as a (encoded_as a (length out)) out

-- what is promised of the answer, and of the output before and after: a choice of an encoder
pub record Chosen (a : Option Asked) (out : List ℕ) (r : Encoded) (left : List ℕ) : Type 0 where
  pub answer : r ≡ encoded_as a (length out)
  pub output : left ≡ written_as a r out

-- and an exported encoder
pub record Answers (a : Option Asked) (out : List ℕ) (n : ℕ) (left : List ℕ) : Type 0 where
  pub answer : n ≡ answer_of a out
  pub output : left ≡ left_of a out
