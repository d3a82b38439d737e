-- Of each case of an answer: whether it is need-more, the refusal's number and place (docs/FORMAT.md 6; 0 and 0 where nothing is refused), the
-- bytes consumed or written (0 for a refusal and for need-more), and what is handed back (none for a refusal and for need-more).
use Rattle.std.specs.Prelude.{ℕ, Bool, true, false, ◌⊎◌, ◌≡◌}
use Rattle.std.proofs.Math.Option.{Option, some, none}
use Rattle.protocol.specs.Decoded as D
use Rattle.protocol.specs.Decoded.{Decoded}
use Rattle.protocol.specs.declared.Element.{Element}
use Rattle.protocol.specs.Encoded as N
use Rattle.protocol.specs.Encoded.{Encoded}
use Rattle.protocol.specs.Found as F
use Rattle.protocol.specs.Found.{Found}
use Rattle.protocol.specs.declared.Message.{Message}

pub record Answer (X : Type 0) : Type 0 where
  pub need_more : Bool
  pub number : ℕ
  pub place : ℕ
  pub consumed : ℕ
  pub value : Option X

abbrev pub success : {X : Type 0} → X → ℕ → Answer X
success x n = record { need_more = false; number = 0; place = 0; consumed = n; value = some x }

abbrev pub needs_more : {X : Type 0} → Answer X
needs_more = record { need_more = true; number = 0; place = 0; consumed = 0; value = none }

abbrev pub refusal : {X : Type 0} → ℕ → ℕ → Answer X
refusal number place = record { need_more = false; number = number; place = place; consumed = 0; value = none }

-- refused, or told need-more
abbrev pub Unsuccessful : {X : Type 0} → Answer X → Type 0
Unsuccessful a = (a ≡ needs_more) ⊎ ((number : ℕ) × (place : ℕ) × (a ≡ refusal number place))

-- decoding: the record and the bytes consumed
unfoldable pub of_decoded : Decoded → Answer Message
of_decoded (D.Record m n) = success m n
of_decoded D.NeedMore = needs_more
of_decoded (D.Refused number place) = refusal number place

-- an element call: the element; it consumes nothing
unfoldable pub of_element : Found → Answer Element
of_element (F.Is e) = success e 0
of_element F.NeedMore = needs_more
of_element (F.Refused number place) = refusal number place

-- encoding: the bytes written; it hands nothing back
unfoldable pub of_encoded : Encoded → Answer (Unit {0})
of_encoded (N.Done n) = success tt n
of_encoded (N.Refused number place) = refusal number place
