-- The tables of docs/FORMAT.md once more, as plain lines, to hold the table of kinds against: for each mode its number and how its frames are
-- framed; for each kind its name, type byte, smallest length, limit (L is 1,048,576, all others 8,192), and its body, field by field from left
-- to right: the name that the record has for it, and what stands on the wire.
use Prim.Native.Char.{Char, code}
use Rattle.std.specs.Prelude.{ℕ, ◌*◌, List, [], ◌∷◌, map, ◌≡◌, ℤ, pos}
use Prim.Native.String.{String}
use Rattle.std.proofs.Math.Option.{Option, some, none}
use Rattle.protocol.specs.declared.Count.TheVariants as C
use Rattle.protocol.specs.declared.Element.TheVariants as E
use Rattle.protocol.specs.declared.Element.{Element}
use Rattle.protocol.specs.declared.List.{List as ListSlot}
use Rattle.protocol.specs.declared.Message.TheVariants as M
use Rattle.protocol.specs.declared.Message.{Message}
use Rattle.protocol.specs.declared.Span.{Span}
use Rattle.protocol.specs.declared.response.GssEncResponse.TheVariants as Gss
use Rattle.protocol.specs.declared.response.SslResponse.TheVariants as Ssl
use Rattle.protocol.specs.Each.{Each}
use Rattle.protocol.specs.Fields as F
use Rattle.protocol.specs.Fields.{Atom, AtomSlot, Item, Count, Field, Slot}
use Rattle.protocol.specs.Kinds.{Envelope, typed, untyped, bare, Kind, Mode, tls_answer, gss_answer, IsIn}

infix 80 ◌∶◌ ◌≔◌
-- ---- the words of the tables

-- what stands on the wire: a number of that many bits, unsigned or signed; one of some bytes; a string; a value; the rest of the frame
pub data Wire : Type 0 where
  u i : ℕ → Wire
  byte_of : List ℕ → Wire
  string value rest : Wire

pub record Thing : Type 0 where
  pub name : String
  pub wire : Wire

abbrev pub ◌∶◌ : String → Wire → Thing
name ∶ wire = record { name = name; wire = wire }

-- a field: one thing; n, a count that stands on the wire as said, and n items of some things each; or such items until a zero byte stands in
-- place of one
pub data Column : Type 0 where
  one : Thing → Column
  n : Wire → String → List Thing → Column
  until_zero : String → List Thing → Column

pub record Line : Type 0 where
  pub name : String
  pub tag : ℕ
  pub smallest : ℕ
  pub limit : ℕ
  pub body : List Column

pub record Page : Type 0 where
  pub mode : ℕ
  pub envelope : Envelope
  pub lines : List Line

abbrev line : String → Char → ℕ → ℕ → List Column → Line
line name type smallest limit body = record { name = name; tag = code type; smallest = smallest; limit = limit; body = body }

abbrev L : ℕ
L = 1048576

abbrev house : ℕ
house = 8192

-- ---- the tables

abbrev targets : Wire
targets = byte_of (code "S" ∷ code "P" ∷ [])

abbrev statuses : Wire
statuses = byte_of (code "I" ∷ code "T" ∷ code "E" ∷ [])

abbrev formats : Wire → String → Column
formats count name = n count name ("format" ∶ i 16 ∷ [])

abbrev errors : Column
errors = until_zero "fields" ("code" ∶ u 8 ∷ "string" ∶ string ∷ [])

abbrev arguments : Column
arguments = until_zero "parameters" ("name" ∶ string ∷ "value" ∶ string ∷ [])

abbrev key : List Column
key = one ("pid" ∶ i 32) ∷ one ("secret_key" ∶ i 32) ∷ []

abbrev pub frontend : List Line
frontend =
    line "Parse" "P" 8 L (one ("name" ∶ string) ∷ one ("query" ∶ string) ∷ n (u 16) "type_oids" ("oid" ∶ u 32 ∷ []) ∷ [])
    ∷ line "Bind" "B" 12 L
    (one ("portal_name" ∶ string)
    ∷ one ("statement_name" ∶ string)
    ∷ formats (u 16) "parameter_format_codes"
    ∷ n (u 16) "parameters" ("value" ∶ value ∷ [])
    ∷ formats (u 16) "result_column_format_codes"
    ∷ [])
    ∷ line "Close" "C" 6 house (one ("target_type" ∶ targets) ∷ one ("name" ∶ string) ∷ [])
    ∷ line "Describe" "D" 6 house (one ("target_type" ∶ targets) ∷ one ("name" ∶ string) ∷ [])
    ∷ line "Execute" "E" 9 house (one ("name" ∶ string) ∷ one ("max_rows" ∶ i 32) ∷ [])
    ∷ line "Flush" "H" 4 house []
    ∷ line "Sync" "S" 4 house []
    ∷ line "CopyDone" "c" 4 house []
    ∷ line "CopyData" "d" 4 L (one ("data" ∶ rest) ∷ [])
    ∷ line "CopyFail" "f" 5 house (one ("message" ∶ string) ∷ [])
    ∷ line "Query" "Q" 5 house (one ("query" ∶ string) ∷ [])
    ∷ line "Terminate" "X" 4 house []
    ∷ []

abbrev pub backend : List Line
backend =
    line "ParseComplete" "1" 4 house []
    ∷ line "BindComplete" "2" 4 house []
    ∷ line "CloseComplete" "3" 4 house []
    ∷ line "PortalSuspended" "s" 4 house []
    ∷ line "NoData" "n" 4 house []
    ∷ line "EmptyQueryResponse" "I" 4 house []
    ∷ line "CopyDone" "c" 4 house []
    ∷ line "RowDescription" "T" 6 L
    (n (i 16) "fields"
    ("name" ∶ string
    ∷ "table_id" ∶ i 32
    ∷ "column_id" ∶ i 16
    ∷ "type_id" ∶ u 32
    ∷ "type_size" ∶ i 16
    ∷ "type_modifier" ∶ i 32
    ∷ "format_code" ∶ i 16
    ∷ [])
    ∷ [])
    ∷ line "ParameterDescription" "t" 6 L (n (u 16) "types" ("oid" ∶ u 32 ∷ []) ∷ [])
    ∷ line "DataRow" "D" 6 L (n (i 16) "data" ("value" ∶ value ∷ []) ∷ [])
    ∷ line "CommandComplete" "C" 5 house (one ("tag" ∶ string) ∷ [])
    ∷ line "ReadyForQuery" "Z" 5 house (one ("status" ∶ statuses) ∷ [])
    ∷ line "ErrorResponse" "E" 5 L (errors ∷ [])
    ∷ line "NoticeResponse" "N" 5 L (errors ∷ [])
    ∷ line "CopyInResponse" "G" 7 house (one ("format" ∶ i 8) ∷ formats (i 16) "column_formats" ∷ [])
    ∷ line "CopyOutResponse" "H" 7 house (one ("format" ∶ i 8) ∷ formats (i 16) "column_formats" ∷ [])
    ∷ line "CopyBothResponse" "W" 7 house (one ("format" ∶ i 8) ∷ formats (i 16) "column_formats" ∷ [])
    ∷ line "NotificationResponse" "A" 10 L (one ("pid" ∶ i 32) ∷ one ("channel" ∶ string) ∷ one ("payload" ∶ string) ∷ [])
    ∷ line "CopyData" "d" 4 L (one ("data" ∶ rest) ∷ [])
    ∷ line "ParameterStatus" "S" 6 house (one ("name" ∶ string) ∷ one ("value" ∶ string) ∷ [])
    ∷ line "BackendKeyData" "K" 12 house key
    ∷ []

abbrev untyped_line : String → ℕ → ℕ → List Column → Line
untyped_line name tag smallest body = record { name = name; tag = tag; smallest = smallest; limit = house; body = body }

abbrev cancel : Line
cancel = untyped_line "CancelRequest" 80877102 16 key

abbrev pub first : List Line
first =
    untyped_line "Startup" 196608 9 (arguments ∷ [])
    ∷ untyped_line "SslRequest" 80877103 8 []
    ∷ untyped_line "GssEncRequest" 80877104 8 []
    ∷ cancel
    ∷ []

abbrev pub document : List Page
document =
    record { mode = 0; envelope = typed; lines = frontend }
    ∷ record { mode = 1; envelope = typed; lines = backend }
    ∷ record { mode = 2; envelope = untyped; lines = cancel ∷ [] }
    ∷ record { mode = 3; envelope = bare; lines = line "SslResponse" "S" 1 1 [] ∷ line "SslResponse" "N" 1 1 [] ∷ [] }
    ∷ record { mode = 4; envelope = bare; lines = line "GssEncResponse" "G" 1 1 [] ∷ line "GssEncResponse" "N" 1 1 [] ∷ [] }
    ∷ record { mode = 5; envelope = untyped; lines = first }
    ∷ []

-- ---- what a record holds, and what an element holds, field by field in the body's order, each under its name

-- a number, a signed number, the part that a string or a rest is, that of a value or NULL, a list
pub data Holds : Type 0 where
  number : ℕ → Holds
  integer : ℤ → Holds
  part : Span → Holds
  or_null : Option Span → Holds
  list : ListSlot → Holds

pub record Named : Type 0 where
  pub name : String
  pub holds : Holds

abbrev pub ◌≔◌ : String → Holds → Named
name ≔ holds = record { name = name; holds = holds }

abbrev target : ℕ → Span → List Named
target t name = "target_type" ≔ number t ∷ "name" ≔ part name ∷ []

abbrev copying : ℤ → ListSlot → List Named
copying format formats = "format" ≔ integer format ∷ "column_formats" ≔ list formats ∷ []

abbrev cancel_key : ℤ → ℤ → List Named
cancel_key pid secret = "pid" ≔ integer pid ∷ "secret_key" ≔ integer secret ∷ []

abbrev pair_of : Span → Span → List Named
pair_of name of = "name" ≔ part name ∷ "value" ≔ part of ∷ []

abbrev pub fields_of : Message → List Named
fields_of (M.Parse m) = "name" ≔ part m.name ∷ "query" ≔ part m.query ∷ "type_oids" ≔ list m.type_oids ∷ []
fields_of (M.Bind m) =
    "portal_name" ≔ part m.portal_name
    ∷ "statement_name" ≔ part m.statement_name
    ∷ "parameter_format_codes" ≔ list m.parameter_format_codes
    ∷ "parameters" ≔ list m.parameters
    ∷ "result_column_format_codes" ≔ list m.result_column_format_codes
    ∷ []
fields_of (M.Close m) = target m.target_type m.name
fields_of (M.Describe m) = target m.target_type m.name
fields_of (M.Execute m) = "name" ≔ part m.name ∷ "max_rows" ≔ integer m.max_rows ∷ []
fields_of M.Flush = []
fields_of M.Sync = []
fields_of M.CopyDone = []
fields_of (M.CopyData m) = "data" ≔ part m.«data» ∷ []
fields_of (M.CopyFail m) = "message" ≔ part m.message ∷ []
fields_of M.ParseComplete = []
fields_of M.BindComplete = []
fields_of M.CloseComplete = []
fields_of M.PortalSuspended = []
fields_of M.NoData = []
fields_of M.EmptyQueryResponse = []
fields_of (M.RowDescription m) = "fields" ≔ list m.fields ∷ []
fields_of (M.ParameterDescription m) = "types" ≔ list m.types ∷ []
fields_of (M.DataRow m) = "data" ≔ list m.«data» ∷ []
fields_of (M.CommandComplete m) = "tag" ≔ part m.tag ∷ []
fields_of (M.ReadyForQuery m) = "status" ≔ number m.status ∷ []
fields_of (M.ErrorResponse m) = "fields" ≔ list m.fields ∷ []
fields_of (M.NoticeResponse m) = "fields" ≔ list m.fields ∷ []
fields_of (M.CopyInResponse m) = copying m.format m.column_formats
fields_of (M.CopyOutResponse m) = copying m.format m.column_formats
fields_of (M.CopyBothResponse m) = copying m.format m.column_formats
fields_of (M.NotificationResponse m) = "pid" ≔ integer m.pid ∷ "channel" ≔ part m.channel ∷ "payload" ≔ part m.payload ∷ []
fields_of (M.CancelRequest m) = cancel_key m.pid m.secret_key
fields_of (M.SslResponse m) = []
fields_of (M.GssEncResponse m) = []
fields_of (M.Startup m) = "parameters" ≔ list m.parameters ∷ []
fields_of M.SslRequest = []
fields_of M.GssEncRequest = []
fields_of (M.Query m) = "query" ≔ part m.query ∷ []
fields_of M.Terminate = []
fields_of (M.ParameterStatus m) = pair_of m.name m.value
fields_of (M.BackendKeyData m) = cancel_key m.pid m.secret_key

-- an element that is one thing has the name of its sort
abbrev pub element_fields : Element → List Named
element_fields (E.Oid x) = "oid" ≔ number x ∷ []
element_fields (E.Format z) = "format" ≔ integer z ∷ []
element_fields E.Null = "value" ≔ or_null none ∷ []
element_fields (E.Value s) = "value" ≔ or_null (some s) ∷ []
element_fields (E.Field d) =
    "name" ≔ part d.name
    ∷ "table_id" ≔ integer d.table_id
    ∷ "column_id" ≔ integer d.column_id
    ∷ "type_id" ≔ number d.type_id
    ∷ "type_size" ≔ integer d.type_size
    ∷ "type_modifier" ≔ integer d.type_modifier
    ∷ "format_code" ≔ integer d.format_code
    ∷ []
element_fields (E.ErrorField c s) = "code" ≔ number c ∷ "string" ≔ part s ∷ []
element_fields (E.Pair name of) = pair_of name of

-- ---- a row of the table of kinds in these words

abbrev wire_of : Atom → Wire
wire_of (F.unsigned w) = u (8 * w)
wire_of (F.signed w) = i (8 * w)
wire_of (F.one_of bs) = byte_of bs
wire_of F.text = string
wire_of F.value = value
wire_of F.rest = rest

-- slots to see the names by: no name depends on them
abbrev nowhere : Span
nowhere = record { start = 0; len = 0 }

abbrev blank_atom : (a : Atom) → AtomSlot a
blank_atom (F.unsigned w) = 0
blank_atom (F.signed w) = pos 0
blank_atom (F.one_of bs) = 0
blank_atom F.text = nowhere
blank_atom F.value = none
blank_atom F.rest = nowhere

abbrev blank_atoms : (xs : List Atom) → Each AtomSlot xs
blank_atoms [] = tt
blank_atoms (a ∷ xs) = record { 0 = blank_atom a; 1 = blank_atoms xs }

abbrev blank : (x : Field) → Slot x
blank (F.one a) = blank_atom a
blank (F.counted k item) = record { start = 0; count = 0 }
blank (F.ended item) = record { start = 0; count = 0 }

abbrev blanks : (xs : List Field) → Each Slot xs
blanks [] = tt
blanks (x ∷ xs) = record { 0 = blank x; 1 = blanks xs }

abbrev pub names_of : List Named → List String
names_of xs = map (λ (x : Named). x.name) xs

-- a name for each; what the record has no name for is still there, under no name, so that nothing that stands on the wire is left out
abbrev things : List Atom → List String → List Thing
things [] names = []
things (a ∷ xs) [] = "" ∶ wire_of a ∷ things xs []
things (a ∷ xs) (name ∷ names) = name ∶ wire_of a ∷ things xs names

abbrev pub item_names : Item → List String
item_names item = names_of (element_fields (item.element (blank_atoms item.atoms)))

abbrev count_wire : Count → Wire
count_wire C.Signed = i 16
count_wire C.Unsigned = u 16

abbrev column : Field → String → Column
column (F.one a) name = one (name ∶ wire_of a)
column (F.counted k item) name = n (count_wire k) name (things item.atoms (item_names item))
column (F.ended item) name = until_zero name (things item.atoms (item_names item))

abbrev columns : List Field → List String → List Column
columns [] names = []
columns (x ∷ xs) [] = column x "" ∷ columns xs []
columns (x ∷ xs) (name ∷ names) = column x name ∷ columns xs names

abbrev pub record_names : Kind → List String
record_names k = names_of (fields_of (k.message (blanks k.body)))

abbrev pub line_of : Kind → Line
line_of k = record {
  name = k.name;
  tag = k.tag;
  smallest = k.smallest;
  limit = k.limit;
  body = columns k.body (record_names k);
}

abbrev pub lines : Mode → Page
lines m = record { mode = m.mode; envelope = m.envelope; lines = map line_of m.kinds }

-- ---- the record holds, under each name, what was read of that field

abbrev held_atom : (a : Atom) → AtomSlot a → Holds
held_atom (F.unsigned w) v = number v
held_atom (F.signed w) v = integer v
held_atom (F.one_of bs) v = number v
held_atom F.text v = part v
held_atom F.value v = or_null v
held_atom F.rest v = part v

abbrev held : (x : Field) → Slot x → Holds
held (F.one a) v = held_atom a v
held (F.counted k item) v = list v
held (F.ended item) v = list v

-- each of some, under the names in their order; under no name where these run out
abbrev under : {X : Type 0} {S : X → Type 0} → ((x : X) → S x → Holds) → (xs : List X) → Each S xs → List String → List Named
under hold [] v names = []
under hold (x ∷ xs) v [] = record { name = ""; holds = hold x v.0 } ∷ under hold xs v.1 []
under hold (x ∷ xs) v (name ∷ names) = record { name = name; holds = hold x v.0 } ∷ under hold xs v.1 names

abbrev pub RecordNamed : Kind → Type 0
RecordNamed k = (v : Each Slot k.body) → fields_of (k.message v) ≡ under held k.body v (record_names k)

-- and so does an element of each of its lists
abbrev pub ItemNamed : Item → Type 0
ItemNamed item = (v : Each AtomSlot item.atoms) → element_fields (item.element v) ≡ under held_atom item.atoms v (item_names item)

abbrev pub ItemsNamed : List Field → Type 0
ItemsNamed [] = Unit {0}
ItemsNamed (F.one a ∷ xs) = ItemsNamed xs
ItemsNamed (F.counted k item ∷ xs) = ItemNamed item × ItemsNamed xs
ItemsNamed (F.ended item ∷ xs) = ItemNamed item × ItemsNamed xs

-- ---- which byte is which answer, in modes 3 and 4

pub record Byte : Type 0 where
  pub byte : ℕ
  pub is : Message

abbrev pub bytes_of : Mode → List Byte
bytes_of m = map (λ (k : Kind). record { byte = k.tag; is = k.message (blanks k.body) }) m.kinds

abbrev pub tls_bytes : List Byte
tls_bytes = record { byte = code "S"; is = M.SslResponse Ssl.Accept } ∷ record { byte = code "N"; is = M.SslResponse Ssl.Refuse } ∷ []

abbrev pub gss_bytes : List Byte
gss_bytes = record { byte = code "G"; is = M.GssEncResponse Gss.Accept } ∷ record { byte = code "N"; is = M.GssEncResponse Gss.Refuse } ∷ []

-- ---- the statement

-- The table of kinds has the document's lines, with its bodies; a record holds what was read of each field under the line's name for it, and so does
-- an element of each of its lists; and each answer byte of modes 3 and 4 is the answer that the document says.
pub record TableIsDocument (table : List Mode) : Type 0 where
  pub lines : map lines table ≡ document
  pub records : (m : Mode) → IsIn m table → (k : Kind) → IsIn k m.kinds → RecordNamed k × ItemsNamed k.body
  pub answers : (bytes_of tls_answer ≡ tls_bytes) × (bytes_of gss_answer ≡ gss_bytes)
