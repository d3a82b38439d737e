-- Element calls: decode's own refusal first, need-more exactly where decoding says so, more bytes, and the second form, a value's bytes or the empty
-- start of the stand-in.
use Prim.Native.Nat.{ℕ}
use mathlib.Core.Bool.{Bool, true, false, cond}
use mathlib.Core.List.{List, ◌++◌}
use mathlib.Core.Logic.{inl, inr}
use mathlib.Core.Option.{Option, some, none}
use mathlib.Core.Path.{◌≡◌, refl, ap, sym, ◌∙◌}
use lib.Dec.{ltb}
use lib.ListN.{length, take}
use lib.Seq.{take-append-le}
use Rattle.protocol.specs.Decoded as D
use Rattle.protocol.specs.Found as F
use Rattle.protocol.specs.Found.{Found as ElementAnswer}
use Rattle.protocol.specs.declared.Message.{Message}
use Rattle.protocol.specs.declared.Rules.{Rules}
use Rattle.protocol.specs.Answers.{Unsuccessful, of_decoded, of_element}
use Rattle.protocol.specs.Decode.{Header, more, refuse, framed, header_of, closed, read_body, body_of, decoded_by, decode_by, decode_of}
use Rattle.protocol.specs.Each.{Each, slots_of_each}
use Rattle.protocol.specs.Elements.{Listed, list_in, read_item_at, element_by, found_by, element_at, element_in, element_of, value_or}
use Rattle.protocol.specs.Fields.{AtomSlot, value_slot, atom_slot, Item, item_slots}
use Rattle.protocol.specs.Kinds.{Kind, nullable, value_element}
use Rattle.protocol.specs.Reading.{Read, got, bad, and_then, read, read_each}
use Rattle.protocol.specs.Refusals.{bytes_left, no_such_element}
use Rattle.protocol.specs.WellFormed.{body_start}
use Rattle.protocol.proofs.Basics.{zero_one}
use Rattle.protocol.proofs.Framed.{framed_is, framed_ends}
use Rattle.laws.specs.ElementStatements.{RefusedFirst, ElementsNeedMore, ElementsMoreBytes, StandIns, own_or, EmptyStarts}
use Rattle.laws.specs.Items.{Found, AtomsPlaced, IsItem, Answers}
use Rattle.laws.specs.Places.{AtomPlaced, ValuePlaced}
use Rattle.laws.specs.Statements.{the_decoder, the_element_call}
use Rattle.laws.proofs.Answered.{refused, element_is, element_refused, element_waits}
use Rattle.laws.proofs.Elements.{elements}
use Rattle.laws.proofs.Faults.{handed}
use Rattle.laws.proofs.Headers.{body_answers, header_again}
use Rattle.laws.proofs.Speaking.{row_speaks, OfList, found_of}

-- ---- a body that is refused is refused whatever is made of its slots

closed_same : {X Y : Type 0} (f : List ℕ) (q : ℕ) (x : X) (y : Y) (number place : ℕ) (t : Bool) → cond t (bad bytes_left q) (got x q) ≡ bad number place → cond t (bad bytes_left q) (got y q) ≡ bad number place
closed_same f q x y number place true e = handed e
closed_same f q x y number place false e = absurd (zero_one cc)

body_same : {X Y Z : Type 0} (f : List ℕ) (make : Z → X) (other : Z → Y) (number place : ℕ) (r : Read Z) → and_then r (λ v q. closed f q (make v)) ≡ bad number place → and_then r (λ v q. closed f q (other v)) ≡ bad number place
unfolding closed
body_same f make other number place (got v q) e = closed_same f q (make v) (other v) number place (ltb q (length f)) e
body_same f make other number place (bad k x) e = handed e

-- ---- a whole frame's element is an answer

read_speaks : (i : Item) (r : Read (Each AtomSlot i.atoms)) → (of_element (element_by i.element r)).need_more ≡ false
unfolding element_by of_element
read_speaks i (got v q) = refl
read_speaks i (bad number place) = refl

at_speaks : (rules : Rules) (f : List ℕ) (n : ℕ) (o : Listed) (t : Bool) → (of_element (cond t (element_by o.item.element (read_item_at rules o.item n f o.list.start)) (F.Refused no_such_element 0))).need_more ≡ false
unfolding of_element
at_speaks rules f n o true = read_speaks o.item (read_item_at rules o.item n f o.list.start)
at_speaks rules f n o false = refl

list_speaks : (rules : Rules) (f : List ℕ) (n : ℕ) (o : Option Listed) → (of_element (element_at rules f n o)).need_more ≡ false
unfolding element_at of_element
list_speaks rules f n none = refl
list_speaks rules f n (some o) = at_speaks rules f n o (ltb n o.list.count)

-- ---- the theorems

module _ (rules : Rules) (s : List ℕ) (l n : ℕ) where
  -- decode's refusal of a whole frame is the call's
  refused_body : (k : Kind) (start end number place : ℕ) (x : Read Message) → read_body rules k k.message (take end s) start ≡ x → decoded_by x end ≡ D.Refused number place → element_in rules s l n (framed k start end) ≡ F.Refused number place
  unfolding element_in found_by decoded_by
  refused_body k start end number place (got m q) x e = absurd (zero_one cc)
  refused_body k start end number place (bad c y) x e =
      let en : c ≡ number = cc in
      let ep : y ≡ place = cc in
      let h = body_same (take end s) k.message (list_in k.body l) c y (read_each (read rules) k.body (take end s) start) x in
      rw h (rw (en, ep) refl)

  refused_by : (h : Header) (number place : ℕ) → decode_by rules s h ≡ D.Refused number place → element_in rules s l n h ≡ F.Refused number place
  unfolding element_in decode_by
  refused_by more number place e = absurd (zero_one cc)
  refused_by (refuse c y) number place e =
      let en : c ≡ number = cc in
      let ep : y ≡ place = cc in
      rw (en, ep) refl
  refused_by (framed k start end) number place e = refused_body k start end number place (read_body rules k k.message (take end s) start) refl e

  -- what is made of a whole frame is an answer
  body_speaks : (f : List ℕ) (r : Read (Option Listed)) → (of_element (found_by (element_at rules f n) r)).need_more ≡ false
  unfolding found_by of_element
  body_speaks f (bad number place) = refl
  body_speaks f (got o q) = list_speaks rules f n o

  frame_speaks : (k : Kind) (start end : ℕ) → (of_element (element_in rules s l n (framed k start end))).need_more ≡ false
  unfolding element_in
  frame_speaks k start end = body_speaks (take end s) (read_body rules k (list_in k.body l) (take end s) start)

  -- so a call waits exactly where its header does
  waits_by : (h : Header) → header_of rules s ≡ h → (of_element (element_in rules s l n h)).need_more ≡ (of_decoded (decode_by rules s h)).need_more
  unfolding element_in decode_by of_element of_decoded
  waits_by more h = refl
  waits_by (refuse number place) h = refl
  waits_by (framed k start end) h = frame_speaks k start end ∙ sym (body_answers (body_of rules k (take end s) start) end)

  answered : (h : Header) → (of_element (element_in rules s l n h)).need_more ≡ false → h ≡ more → ⊥
  unfolding element_in of_element
  answered h e q = let w = rw q at e in zero_one cc

  longer : (t : List ℕ) (h : Header) → header_of rules s ≡ h → element_in rules (s ++ t) l n h ≡ element_in rules s l n h
  unfolding element_in
  longer t more h = refl
  longer t (refuse number place) h = refl
  longer t (framed k start end) h = rw (take-append-le end s t (framed_ends rules s k start end (framed_is rules s k start end h)).1) refl

pub refused_first : RefusedFirst the_decoder the_element_call
unfolding element_of decode_of of_element
refused_first rules s l n number place e = ap of_element (refused_by rules s l n (header_of rules s) number place (refused e))

pub elements_need_more : ElementsNeedMore the_decoder the_element_call
unfolding element_of decode_of
elements_need_more rules s l n = waits_by rules s l n (header_of rules s) refl

pub elements_more_bytes : ElementsMoreBytes the_element_call
unfolding element_of
elements_more_bytes rules s t l n e = rw (header_again s t rules (answered rules s l n (header_of rules s) e)) (ap of_element (longer rules s l n t (header_of rules s) refl))

-- the second form, of an item that is a value
own_by : (s stand : List ℕ) (place : ℕ) (own : Option (List ℕ)) (e : ElementAnswer) → IsItem s (record { item = nullable; place = place; content = (own, tt) }) e → value_or s stand e ≡ own_or stand own
unfolding value_or value_element item_slots slots_of_each atom_slot value_slot AtomsPlaced AtomPlaced ValuePlaced
own_by s stand place none e h = rw (element_is h.is) refl
own_by s stand place (some own) e h = rw (element_is h.is) h.placed.0

value_by_lem : (s stand : List ℕ) (place : ℕ) (own : Option (List ℕ)) (e : ElementAnswer) (o : Option Found) → o ≡ some (record { item = nullable; place = place; content = (own, tt) }) → Answers s o e → value_or s stand e ≡ own_or stand own
value_by_lem s stand place own e o q a = own_by s stand place own e (rw q at a)

pub stand_ins : StandIns the_element_call
stand_ins rules m k c t stand l n place own w q = value_by_lem _ stand place own _ _ q (elements rules m k c t l n w)

-- ---- the empty start of the stand-in

refused_empty : (s stand : List ℕ) (e : ElementAnswer) → Unsuccessful (of_element e) → value_or s stand e ≡ take 0 stand
unfolding value_or
refused_empty s stand e (inl h) = rw (element_waits h) refl
refused_empty s stand e (inr (number, place, h)) = rw (element_refused h) refl

other_empty : (s stand : List ℕ) (list : Option Item) → (list ≡ some nullable → ⊥) → (o : Option Found) (e : ElementAnswer) → OfList list o → Answers s o e → value_or s stand e ≡ take 0 stand
unfolding OfList
other_empty s stand list other none e t a = refused_empty s stand e (inr (no_such_element, 0, a))
other_empty s stand list other (some x) e t a =
    rw (element_is a.is) (t.0.plain (λ q. other (t.1 ∙ ap some q)) s stand (item_slots x.item x.place x.content))

pub empty_starts : EmptyStarts the_element_call
empty_starts = record {
  refused = λ rules s stand l n h. refused_empty s stand _ h;
  others = λ rules m k c t stand l n w other.
      let f = found_of k.body (row_speaks m w.known k w.kind) (body_start m.envelope) c l n in
      other_empty _ stand _ other _ _ f (elements rules m k c t l n w);
}
