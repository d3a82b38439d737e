-- Elements (docs/FORMAT.md 8): which lists a kind has, and what an element call answers.
use Rattle.std.specs.Prelude.{ℕ, zero, suc, cond, List, [], ◌∷◌, ltb, take}
use Rattle.std.proofs.Math.Option.{Option, some, none}
use Rattle.protocol.specs.declared.Element.TheVariants as E
use Rattle.protocol.specs.declared.Element.{Element}
use Rattle.protocol.specs.Found as F
use Rattle.protocol.specs.Found.{Found}
use Rattle.protocol.specs.declared.List.{List as ListSlot}
use Rattle.protocol.specs.declared.Message.{Message}
use Rattle.protocol.specs.declared.Rules.{Rules}
use Rattle.protocol.specs.Bytes.{part_of}
use Rattle.protocol.specs.Each.{Each}
use Rattle.protocol.specs.Fields.{AtomSlot, Item, Field, one, counted, ended, Slot}
use Rattle.protocol.specs.Reading.{Read, got, bad, and_then, read_item, pass_items}
use Rattle.protocol.specs.Refusals.{no_such_element}
use Rattle.protocol.specs.Views.{view}
use Rattle.protocol.specs.Decode.{Header, more, refuse, framed, header_of, read_body}

-- a list of a frame: the sort of its items, where it starts and how many it has
pub record Listed : Type 0 where
  pub item : Item
  pub list : ListSlot

-- a body's lists from left to right are its lists 0, 1, ..
unfoldable pub list_in : (xs : List Field) → ℕ → Each Slot xs → Option Listed
list_in [] l s = none
list_in (one a ∷ xs) l s = list_in xs l s.1
list_in (counted k i ∷ xs) zero s = some (record { item = i; list = s.0 })
list_in (counted k i ∷ xs) (suc l) s = list_in xs l s.1
list_in (ended i ∷ xs) zero s = some (record { item = i; list = s.0 })
list_in (ended i ∷ xs) (suc l) s = list_in xs l s.1

-- list l of a message
unfoldable pub list_of : Message → ℕ → Option Listed
list_of m l = list_in (view m).kind.body l (view m).slots

-- item n of those that stand from p on
abbrev pub read_item_at : Rules → (i : Item) → ℕ → List ℕ → ℕ → Read (Each AtomSlot i.atoms)
read_item_at rules i n f p = and_then (pass_items rules i n f p) (λ _ q. read_item rules i f q)

-- what is answered of what was read, or its refusal
unfoldable pub found_by : {X : Type 0} → (X → Found) → Read X → Found
found_by answer (got x next) = answer x
found_by answer (bad number place) = F.Refused number place

unfoldable pub element_by : {X : Type 0} → (X → Element) → Read X → Found
element_by element (got x next) = F.Is (element x)
element_by element (bad number place) = F.Refused number place

-- element n of a list, if there is the list and n is below its count
unfoldable pub element_at : Rules → List ℕ → ℕ → Option Listed → Found
element_at rules f n none = F.Refused no_such_element 0
element_at rules f n (some l) =
    cond (ltb n l.list.count) (element_by l.item.element (read_item_at rules l.item n f l.list.start))
    (F.Refused no_such_element 0)

-- decode's own refusal or need-more first
unfoldable pub element_in : Rules → List ℕ → ℕ → ℕ → Header → Found
element_in rules s l n more = F.NeedMore
element_in rules s l n (refuse number place) = F.Refused number place
element_in rules s l n (framed k start end) =
    found_by (element_at rules (take end s) n) (read_body rules k (list_in k.body l) (take end s) start)

-- element n of list l of the frame at the buffer's start
unfoldable pub element_of : Rules → List ℕ → ℕ → ℕ → Found
element_of rules s l n = element_in rules s l n (header_of rules s)

-- the second form: a value's own bytes, or the stand-in for NULL; where there is no value, the empty start of the stand-in
unfoldable pub value_or : List ℕ → List ℕ → Found → List ℕ
value_or s stand (F.Is (E.Value v)) = part_of s v.start v.len
value_or s stand (F.Is E.Null) = stand
value_or s stand (F.Is (E.Oid n)) = []
value_or s stand (F.Is (E.Format z)) = []
value_or s stand (F.Is (E.Field d)) = []
value_or s stand (F.Is (E.ErrorField c t)) = []
value_or s stand (F.Is (E.Pair n v)) = []
value_or s stand F.NeedMore = []
value_or s stand (F.Refused number place) = []
