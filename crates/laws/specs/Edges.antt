-- The starred lines of docs/FORMAT.md 11, the frames that show the edges.
use Rattle.std.specs.Prelude.{ℕ, List, [], ◌∷◌, ◌≡◌, pos}
use Rattle.protocol.specs.Decoded.{Decoded}
use Rattle.protocol.specs.declared.Element.TheVariants as E
use Rattle.protocol.specs.declared.Element.{Element}
use Rattle.protocol.specs.declared.Message.TheVariants as M
use Rattle.protocol.specs.declared.Message.{Message}
use Rattle.protocol.specs.declared.Rules.{Rules}
use Rattle.protocol.specs.Answers.{Answer, success, needs_more, refusal, of_decoded, of_element}
use Rattle.protocol.specs.Found.{Found}
use Rattle.protocol.specs.Rules.{rules_of}

-- an element that a line names: list number, element number, and the element
pub record Named : Type 0 where
  pub list : ℕ
  pub number : ℕ
  pub element : Element

pub record Edge : Type 0 where
  pub mode : ℕ
  pub bytes : List ℕ
  pub answer : Answer Message
  pub elements : List Named

-- a line that names elements, and one that names none
abbrev edge_with : ℕ → List ℕ → Answer Message → List Named → Edge
edge_with mode bytes answer elements = record { mode = mode; bytes = bytes; answer = answer; elements = elements }

abbrev edge : ℕ → List ℕ → Answer Message → Edge
edge mode bytes answer = edge_with mode bytes answer []

abbrev pub edges : List Edge
edges =
    edge 0 (0x53 ∷ 0x00 ∷ 0x00 ∷ 0x00 ∷ 0x04 ∷ []) (success M.Sync 5)
    ∷ edge 0 (0x53 ∷ 0x00 ∷ 0x00 ∷ 0x00 ∷ []) needs_more
    ∷ edge 0 (0x53 ∷ 0x00 ∷ 0x00 ∷ 0x00 ∷ 0x03 ∷ []) (refusal 3 1)
    ∷ edge 0 (0x53 ∷ 0x00 ∷ 0x00 ∷ 0x00 ∷ 0x05 ∷ 0x00 ∷ []) (refusal 8 5)
    ∷ edge 1 (0x53 ∷ 0x00 ∷ 0x00 ∷ 0x00 ∷ 0x04 ∷ []) (refusal 3 1)
    ∷ edge_with 0 (0x42 ∷ 0x00 ∷ 0x00 ∷ 0x00 ∷ 0x10 ∷ 0x00 ∷ 0x00 ∷ 0x00 ∷ 0x00 ∷ 0x00 ∷ 0x01 ∷ 0xFF ∷ 0xFF ∷ 0xFF ∷ 0xFF ∷ 0x00 ∷ 0x00 ∷ [])
    (success
    (M.Bind (record {
      portal_name = record { start = 5; len = 0 };
      statement_name = record { start = 6; len = 0 };
      parameter_format_codes = record { start = 9; count = 0 };
      parameters = record { start = 11; count = 1 };
      result_column_format_codes = record { start = 17; count = 0 };
    }))
    17)
    (record { list = 1; number = 0; element = E.Null } ∷ [])
    ∷ edge 0 (0x42 ∷ 0x00 ∷ 0x00 ∷ 0x00 ∷ 0x10 ∷ 0x00 ∷ 0x00 ∷ 0x00 ∷ 0x00 ∷ 0x00 ∷ 0x01 ∷ 0xFF ∷ 0xFF ∷ 0xFF ∷ 0xFE ∷ 0x00 ∷ 0x00 ∷ [])
    (refusal 7 11)
    ∷ edge_with 1 (0x44 ∷ 0x00 ∷ 0x00 ∷ 0x00 ∷ 0x10 ∷ 0x00 ∷ 0x02 ∷ 0x00 ∷ 0x00 ∷ 0x00 ∷ 0x02 ∷ 0x61 ∷ 0x62 ∷ 0xFF ∷ 0xFF ∷ 0xFF ∷ 0xFF ∷ [])
    (success (M.DataRow (record { «data» = record { start = 7; count = 2 } })) 17)
    (record { list = 0; number = 0; element = E.Value (record { start = 11; len = 2 }) } ∷ record { list = 0; number = 1; element = E.Null } ∷ [])
    ∷ edge 1 (0x43 ∷ 0x00 ∷ 0x00 ∷ 0x00 ∷ 0x06 ∷ 0x4F ∷ 0x4B ∷ []) (refusal 6 5)
    ∷ edge 1 (0x54 ∷ 0x00 ∷ 0x00 ∷ 0x00 ∷ 0x06 ∷ 0xFF ∷ 0xFF ∷ []) (refusal 5 5)
    ∷ edge 1 (0x45 ∷ 0x00 ∷ 0x00 ∷ 0x00 ∷ 0x05 ∷ 0x00 ∷ []) (success (M.ErrorResponse (record { fields = record { start = 5; count = 0 } })) 6)
    ∷ edge 2 (0x00 ∷ 0x00 ∷ 0x00 ∷ 0x10 ∷ 0x04 ∷ 0xD2 ∷ 0x16 ∷ 0x2E ∷ 0x00 ∷ 0x00 ∷ 0x00 ∷ 0x07 ∷ 0x00 ∷ 0x00 ∷ 0x00 ∷ 0x09 ∷ [])
    (success (M.CancelRequest (record { pid = pos 7; secret_key = pos 9 })) 16)
    ∷ edge 3 (0x45 ∷ []) (refusal 2 0)
    ∷ edge 5 (0x00 ∷ 0x00 ∷ 0x00 ∷ 0x09 ∷ 0x00 ∷ 0x03 ∷ 0x00 ∷ 0x00 ∷ 0x00 ∷ []) (success (M.Startup (record { parameters = record { start = 8; count = 0 } })) 9)
    ∷ edge_with 5 (0x00 ∷ 0x00 ∷ 0x00 ∷ 0x12 ∷ 0x00 ∷ 0x03 ∷ 0x00 ∷ 0x00 ∷ 0x75 ∷ 0x73 ∷ 0x65 ∷ 0x72 ∷ 0x00 ∷ 0x62 ∷ 0x6F ∷ 0x62 ∷ 0x00 ∷ 0x00 ∷ [])
    (success (M.Startup (record { parameters = record { start = 8; count = 1 } })) 18)
    (record { list = 0; number = 0; element = E.Pair (record { start = 8; len = 4 }) (record { start = 13; len = 3 }) } ∷ [])
    ∷ edge 5 (0x00 ∷ 0x00 ∷ 0x00 ∷ 0x08 ∷ 0x04 ∷ 0xD2 ∷ 0x16 ∷ 0x2F ∷ []) (success M.SslRequest 8)
    ∷ edge 5 (0x00 ∷ 0x00 ∷ 0x00 ∷ 0x08 ∷ 0x00 ∷ 0x02 ∷ 0x00 ∷ 0x00 ∷ []) (refusal 2 4)
    ∷ []

-- each is answered so, and its elements
abbrev pub Gives : (ℕ → ℕ → Found) → List Named → Type 0
Gives call [] = Unit {0}
Gives call (x ∷ xs) = (of_element (call x.list x.number) ≡ success x.element 0) × Gives call xs

abbrev pub Answered : (Rules → List ℕ → Decoded) → (Rules → List ℕ → ℕ → ℕ → Found) → List Edge → Type 0
Answered decode call [] = Unit {0}
Answered decode call (e ∷ es) =
    (of_decoded (decode (rules_of e.mode) e.bytes) ≡ e.answer)
    × Gives (call (rules_of e.mode) e.bytes) e.elements
    × Answered decode call es
