-- The table of kinds is the document's: both are computed, and compared.
use mathlib.Core.List.{[], ◌∷◌, map}
use mathlib.Core.Option.{Option, some, none}
use mathlib.Core.Path.{◌≡◌, refl}
use Rattle.protocol.specs.declared.Span.{Span}
use Rattle.protocol.specs.Kinds as K
use Rattle.protocol.specs.Kinds.{Kind, Mode, modes, nullable, value_element, the_table}
use Rattle.protocol.proofs.Find.{All, in_all}
use Rattle.by_kind.specs.Document as Document
use Rattle.by_kind.specs.Document.{or_null, ◌≔◌, element_fields, line_of, RecordNamed, ItemNamed, ItemsNamed, bytes_of, tls_bytes, gss_bytes, TableIsDocument}

-- ---- lines

frontend_lines : map line_of (K.frontend).kinds ≡ Document.frontend
unfolding the_table value_element
frontend_lines = refl

backend_lines : map line_of (K.backend).kinds ≡ Document.backend
unfolding the_table value_element
backend_lines = refl

first_lines : map line_of (K.first_packet).kinds ≡ Document.first
unfolding the_table value_element
first_lines = refl

-- ---- the names of what a record and its elements hold

-- a value, or NULL
value_by_lem : (v : Option Span) → element_fields (value_element v) ≡ "value" ≔ or_null v ∷ []
unfolding value_element
value_by_lem none = refl
value_by_lem (some v) = refl

value_named : ItemNamed nullable
unfolding value_element
value_named v = value_by_lem v.0

abbrev Holding : Kind → Type 0
Holding k = RecordNamed k × ItemsNamed k.body

all_hold : All (λ (m : Mode). All Holding m.kinds) modes
unfolding the_table value_element
all_hold = search (value_named, tt) depth 60 fits 5000

-- ---- answers of one byte

tls_answers : bytes_of K.tls_answer ≡ tls_bytes
unfolding the_table
tls_answers = refl

gss_answers : bytes_of K.gss_answer ≡ gss_bytes
unfolding the_table
gss_answers = refl

pub table_is_document : TableIsDocument modes
unfolding the_table
table_is_document = record {
  lines = rw (frontend_lines, backend_lines, first_lines) refl;
  records = λ m i k j. in_all Holding m.kinds (in_all (λ (m : Mode). All Holding m.kinds) modes all_hold m i) k j;
  answers = (tls_answers, gss_answers);
}
