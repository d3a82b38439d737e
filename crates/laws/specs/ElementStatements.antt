-- What is proved of element calls: a page to read by itself, as Statements.antt is of decoding. The theorems hold of `the_element_call`, to which the
-- code is proved equal.
use Rattle.std.specs.Prelude.{ℕ, false, List, [], ◌∷◌, ◌++◌, ◌≡◌, take}
use Rattle.std.proofs.Math.Option.{Option, some, none}
use Rattle.protocol.specs.declared.Rules.{Rules}
use Rattle.protocol.specs.Answers.{refusal, Unsuccessful, of_decoded, of_element}
use Rattle.protocol.specs.Bytes.{Bytes}
use Rattle.protocol.specs.Elements.{value_or}
use Rattle.protocol.specs.Kinds.{Kind, Mode, nullable}
use Rattle.protocol.specs.WellFormed.{Contents, WellFormed, body_start, frame}
use Rattle.laws.specs.Items.{found, list_item, Answers}
use Rattle.laws.specs.Statements.{Decoder, ElementCall, IsNumbered, decode_numbers}

-- 1. Elements. Of a well-formed frame, followed by any bytes, element n of list l is item n of that list of the content, positions and all, and the
-- bytes at its positions are the item's; 11 where the content has no such list, or the list no such item.
abbrev pub Elements : ElementCall → Type 0
Elements call =
    (rules : Rules) (m : Mode) (k : Kind) (c : Contents k) (t : List ℕ) (l n : ℕ) → WellFormed rules m k c
    → Answers (frame m.envelope k c ++ t) (found k.body (body_start m.envelope) c l n) (call rules (frame m.envelope k c ++ t) l n)

-- 2. Decode's own refusal first, with its number and place.
abbrev pub RefusedFirst : Decoder → ElementCall → Type 0
RefusedFirst decode call =
    (rules : Rules) (s : List ℕ) (l n number place : ℕ) → of_decoded (decode rules s) ≡ refusal number place
    → of_element (call rules s l n) ≡ refusal number place

-- 3. Need-more exactly where decoding says so.
abbrev pub ElementsNeedMore : Decoder → ElementCall → Type 0
ElementsNeedMore decode call =
    (rules : Rules) (s : List ℕ) (l n : ℕ) → (of_element (call rules s l n)).need_more ≡ (of_decoded (decode rules s)).need_more

-- 4. More bytes never change an element or a refusal.
abbrev pub ElementsMoreBytes : ElementCall → Type 0
ElementsMoreBytes call =
    (rules : Rules) (s t : List ℕ) (l n : ℕ) → (of_element (call rules s l n)).need_more ≡ false
    → of_element (call rules (s ++ t) l n) ≡ of_element (call rules s l n)

-- 5. Numbered. A refusal has a number from 1 to 8, or 11; an element call consumes nothing, and where it is refused or needs more it gives no
-- element.
abbrev pub element_numbers : List ℕ
element_numbers = decode_numbers ++ 11 ∷ []

abbrev pub ElementsNumbered : ElementCall → Type 0
ElementsNumbered call =
    (rules : Rules) (s : List ℕ) (l n : ℕ) → Bytes s
    → IsNumbered element_numbers (of_element (call rules s l n)) × ((of_element (call rules s l n)).consumed ≡ 0)

-- 6. These leave one element call: whatever meets them gives the same answers.
abbrev pub OneElementCall : Decoder → ElementCall → Type 0
OneElementCall decode call =
    (other : ElementCall) → Elements other → RefusedFirst decode other → ElementsNeedMore decode other
    → (rules : Rules) (s : List ℕ) (l n : ℕ) → Bytes s → of_element (other rules s l n) ≡ of_element (call rules s l n)

-- 7. The second form hands back a value's own bytes, or the stand-in where the value is NULL.
abbrev pub own_or : List ℕ → Option (List ℕ) → List ℕ
own_or stand none = stand
own_or stand (some own) = own

abbrev pub StandIns : ElementCall → Type 0
StandIns call =
    (rules : Rules) (m : Mode) (k : Kind) (c : Contents k) (t stand : List ℕ) (l n place : ℕ) (own : Option (List ℕ)) → WellFormed rules m k c
    → found k.body (body_start m.envelope) c l n ≡ some (record { item = nullable; place = place; content = (own, tt) })
    → value_or (frame m.envelope k c ++ t) stand (call rules (frame m.envelope k c ++ t) l n) ≡ own_or stand own

-- 8. It hands back the empty start of the stand-in where the first form refuses or says need-more; and of every frame that is accepted where
-- the list is none of values. Crate by_kind says which kinds' lists are: Bind's list 1 and DataRow's list 0.
abbrev pub HasValues : Kind → ℕ → Type 0
HasValues k l = list_item k.body l ≡ some nullable

pub record EmptyStarts (call : ElementCall) : Type 0 where
  pub refused :
      (rules : Rules) (s stand : List ℕ) (l n : ℕ) → Unsuccessful (of_element (call rules s l n))
      → value_or s stand (call rules s l n) ≡ take 0 stand
  pub others :
      (rules : Rules) (m : Mode) (k : Kind) (c : Contents k) (t stand : List ℕ) (l n : ℕ) → WellFormed rules m k c → (HasValues k l → ⊥)
      → value_or (frame m.envelope k c ++ t) stand (call rules (frame m.envelope k c ++ t) l n) ≡ take 0 stand
