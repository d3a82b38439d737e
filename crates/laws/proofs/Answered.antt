-- An answer that is set out loses nothing: it tells its case again. So what is known of the setting out is known of the answer.
use Prim.Native.Nat.{ℕ}
use mathlib.Core.Bool.{true, cond, false≢true}
use mathlib.Core.Logic.{inl, inr}
use mathlib.Core.Option.{Option, some, none}
use mathlib.Core.Path.{◌≡◌, refl, ap, sym, ◌∙◌}
use Rattle.protocol.specs.Decoded as D
use Rattle.protocol.specs.Decoded.{Decoded}
use Rattle.protocol.specs.declared.Element.{Element}
use Rattle.protocol.specs.Encoded as N
use Rattle.protocol.specs.Encoded.{Encoded}
use Rattle.protocol.specs.Found as F
use Rattle.protocol.specs.Found.{Found}
use Rattle.protocol.specs.declared.List.{List as ListSlot}
use Rattle.protocol.specs.declared.Message.{Message}
use Rattle.protocol.specs.Answers.{Answer, success, needs_more, refusal, Unsuccessful, of_decoded, of_element, of_encoded}
use Rattle.protocol.proofs.Basics.{zero_one}
use Rattle.reader.specs.Row.{of_row}
use Rattle.reader.specs.RowAnswer as R
use Rattle.reader.specs.RowAnswer.{Row}
use Rattle.row_builder.specs.Building.{of_built}
use Rattle.row_builder.specs.Built as B
use Rattle.row_builder.specs.Built.{Built}
use Rattle.row_builder.specs.declared.Row.{Row as Stored}

value_by : {X R : Type 0} → (X → R) → R → Option X → R
value_by got lacks none = lacks
value_by got lacks (some x) = got x

-- the answer again, by what is made of a success, of need-more and of a refusal
back : {X R : Type 0} → (X → ℕ → R) → R → (ℕ → ℕ → R) → Answer X → R
back done more refused a = cond a.need_more more (value_by (λ x. done x a.consumed) (refused a.number a.place) a.value)

abbrev decoded_from : Answer Message → Decoded
decoded_from = back D.Record D.NeedMore D.Refused

decoded_back : (d : Decoded) → decoded_from (of_decoded d) ≡ d
unfolding of_decoded back value_by
decoded_back (D.Record m n) = refl
decoded_back D.NeedMore = refl
decoded_back (D.Refused number place) = refl

pub recorded : {d : Decoded} {m : Message} {n : ℕ} → of_decoded d ≡ success m n → d ≡ D.Record m n
unfolding back value_by
recorded {d} e = sym (decoded_back d) ∙ ap decoded_from e

pub waiting : {d : Decoded} → of_decoded d ≡ needs_more → d ≡ D.NeedMore
unfolding back
waiting {d} e = sym (decoded_back d) ∙ ap decoded_from e

pub refused : {d : Decoded} {number place : ℕ} → of_decoded d ≡ refusal number place → d ≡ D.Refused number place
unfolding back value_by
refused {d} e = sym (decoded_back d) ∙ ap decoded_from e

abbrev element_from : Answer Element → Found
element_from = back (λ e _. F.Is e) F.NeedMore F.Refused

element_back : (e : Found) → element_from (of_element e) ≡ e
unfolding of_element back value_by
element_back (F.Is e) = refl
element_back F.NeedMore = refl
element_back (F.Refused number place) = refl

pub element_is : {e : Found} {x : Element} {n : ℕ} → of_element e ≡ success x n → e ≡ F.Is x
unfolding back value_by
element_is {e} h = sym (element_back e) ∙ ap element_from h

pub element_refused : {e : Found} {number place : ℕ} → of_element e ≡ refusal number place → e ≡ F.Refused number place
unfolding back value_by
element_refused {e} h = sym (element_back e) ∙ ap element_from h

pub element_waits : {e : Found} → of_element e ≡ needs_more → e ≡ F.NeedMore
unfolding back
element_waits {e} h = sym (element_back e) ∙ ap element_from h

-- one that needs more, and no other
pub element_needs : (e : Found) → (of_element e).need_more ≡ true → of_element e ≡ needs_more
unfolding of_element back
element_needs e h =
    let q : F.NeedMore ≡ e = rw h at (element_back e) in
    rw (← q) refl

-- it consumes nothing
pub element_consumes : (e : Found) → (of_element e).consumed ≡ 0
unfolding of_element
element_consumes (F.Is e) = refl
element_consumes F.NeedMore = refl
element_consumes (F.Refused number place) = refl

-- an encoder never asks for more
abbrev encoded_from : Answer (Unit {0}) → Encoded
encoded_from = back (λ _ n. N.Done n) (N.Done 0) N.Refused

encoded_back : (r : Encoded) → encoded_from (of_encoded r) ≡ r
unfolding of_encoded back value_by
encoded_back (N.Done n) = refl
encoded_back (N.Refused number place) = refl

pub done : {r : Encoded} {n : ℕ} → of_encoded r ≡ success tt n → r ≡ N.Done n
unfolding back value_by
done {r} e = sym (encoded_back r) ∙ ap encoded_from e

pub encoded_refused : {r : Encoded} {number place : ℕ} → of_encoded r ≡ refusal number place → r ≡ N.Refused number place
unfolding back value_by
encoded_refused {r} e = sym (encoded_back r) ∙ ap encoded_from e

abbrev row_from : Answer ListSlot → Row
row_from = back R.Is R.NeedMore R.Refused

row_back : (r : Row) → row_from (of_row r) ≡ r
unfolding of_row back value_by
row_back (R.Is l n) = refl
row_back R.NeedMore = refl
row_back (R.Refused number place) = refl

pub row_is : {r : Row} {l : ListSlot} {n : ℕ} → of_row r ≡ success l n → r ≡ R.Is l n
unfolding back value_by
row_is {r} e = sym (row_back r) ∙ ap row_from e

-- nor does a builder
abbrev built_from : Answer Stored → Built
built_from = back (λ row _. B.Is row) (B.Refused 0 0) B.Refused

built_back : (b : Built) → built_from (of_built b) ≡ b
unfolding of_built back value_by
built_back (B.Is row) = refl
built_back (B.Refused number place) = refl

pub built : {b : Built} {row : Stored} → of_built b ≡ success row 0 → b ≡ B.Is row
unfolding back value_by
built {b} e = sym (built_back b) ∙ ap built_from e

pub built_refused : {b : Built} {number place : ℕ} → of_built b ≡ refusal number place → b ≡ B.Refused number place
unfolding back value_by
built_refused {b} e = sym (built_back b) ∙ ap built_from e

-- ---- refused or told need-more is no success

pub refusal_is : {X : Type 0} {a b c d : ℕ} → refusal {X = X} a b ≡ refusal c d → (a ≡ c) × (b ≡ d)
refusal_is {X} e = (ap (λ (a : Answer X). a.number) e, ap (λ (a : Answer X). a.place) e)

pub needs_refusal : {X : Type 0} {number place : ℕ} → needs_more {X = X} ≡ refusal number place → ⊥
needs_refusal {X} e = false≢true (sym (ap (λ (a : Answer X). a.need_more) e))

pub not_success : {X : Type 0} {x : X} {n : ℕ} → Unsuccessful (success x n) → ⊥
not_success {X} (inl e) = let v = ap (λ (a : Answer X). a.value) e in zero_one cc
not_success {X} (inr (number, place, e)) = let v = ap (λ (a : Answer X). a.value) e in zero_one cc

pub built_unsuccessful : (b : Built) → Unsuccessful (of_built b) → (number : ℕ) × (place : ℕ) × (b ≡ B.Refused number place)
unfolding of_built
built_unsuccessful (B.Is row) h = absurd (not_success h)
built_unsuccessful (B.Refused number place) h = (number, place, refl)

pub encoded_unsuccessful : (r : Encoded) → Unsuccessful (of_encoded r) → (number : ℕ) × (place : ℕ) × (r ≡ N.Refused number place)
unfolding of_encoded
encoded_unsuccessful (N.Done n) h = absurd (not_success h)
encoded_unsuccessful (N.Refused number place) h = (number, place, refl)
