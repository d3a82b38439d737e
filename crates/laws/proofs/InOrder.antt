-- Reading a well-formed frame field after field gives its content in order and ends at the frame's end.
use Prim.Native.Nat.{ℕ, zero, suc, ◌+◌}
use mathlib.Core.Bool.{true}
use mathlib.Core.List.{List, [], ◌∷◌, ◌++◌, append_assoc, append-nil}
use mathlib.Core.Path.{◌≡◌, refl, subst, sym}
use native.Mathlib.Omega.{arith}
use borrow.Author.Tests.{leb-true}
use lib.Dec.{T, leb}
use lib.ListN.{length, length-append}
use Rattle.protocol.specs.declared.Rules.{Rules}
use Rattle.protocol.specs.Bytes.{be, bits_of}
use Rattle.protocol.specs.Each.{Each, bytes_of_each, able_each, HoldsEach}
use Rattle.protocol.specs.Fields.{Atom, unsigned, signed, one_of, text, value, rest, AtomContent, AtomInRange, atom_able, atom_bytes, atom_slot, Item, ItemContent, ItemInRange, item_able, item_bytes, item_least, items_bytes, ItemsInRange, items_able, Field, one, counted, ended, Content, InRange, able, bytes}
use Rattle.protocol.specs.WellFormed.{body_bytes, header, frame}
use Rattle.protocol.proofs.Find.{every}
use Rattle.protocol.proofs.Basics.{left_holds, right_holds}
use Rattle.protocol.proofs.Counts.{count_back}
use Rattle.laws.specs.Faults.{LastAtom, LastField}
use Rattle.laws.specs.ReaderStatements.{the_reader, Step, AtomInOrder, AtomsInOrder, ItemsInOrder, FieldInOrder, FieldsInOrder, InOrder}
use Rattle.laws.proofs.Atoms.{sane_atom, number_back, byte_back, atom_back}
use Rattle.laws.proofs.Bodies.{sane_field, stops, rest_last, last_nothing, last_stops}
use Rattle.laws.proofs.Complete.{header_long}
use Rattle.laws.proofs.Fields.{atom_placed}
use Rattle.laws.proofs.Items.{both, in_item, sane_item, in_item_sane, in_item_last}
use Rattle.laws.proofs.Numbers.{length-be, bits_below}
use Rattle.laws.proofs.SaneKinds.{row_sane}

-- where the rest of a frame stands only at its end, a field that reads to the end has nothing after it
last : (x : Field) (xs : List Field) → T (rest_last (x ∷ xs)) → (c : Each Content xs) → LastField x (bytes_of_each bytes xs c)
unfolding bytes_of_each
last x [] s c = last_nothing x
last x (y ∷ ys) s c = last_stops x _ (left_holds (stops x) (rest_last (y ∷ ys)) s)

last_of : (x : Field) (xs : List Field) → T (rest_last (x ∷ xs)) → T (rest_last xs)
last_of x [] s = tt
last_of x (y ∷ ys) s = right_holds (stops x) (rest_last (y ∷ ys)) s

module _ (rules : Rules) where
  step : (a : Atom) (c : AtomContent a) (pre post : List ℕ) → T (sane_atom a) → AtomInRange a c → atom_able rules a c ≡ true → LastAtom a post
      → Step the_reader (pre ++ (atom_bytes a c ++ post)) a (length pre) c (length pre + length (atom_bytes a c))
  unfolding Step atom_bytes atom_slot AtomInRange
  step (unsigned w) n pre post t r h l = rw (length-be w n) (number_back w n pre post r)
  step (signed zero) z pre post t r h l = absurd t
  step (signed (suc v)) z pre post t r h l = rw (length-be (suc v) (bits_of (suc v) z)) (number_back (suc v) (bits_of (suc v) z) pre post (bits_below v z r))
  step (one_of bs) b pre post t r h l = byte_back b pre post r
  step text s pre post t r h l = atom_back rules text s post t r h l pre
  step value v pre post t r h l = atom_back rules value v post t r h l pre
  step rest s pre post t r h l = rw l (simp (append-nil, length-append) refl)

  atom_in_order : (a : Atom) (c : AtomContent a) (pre post : List ℕ) → T (sane_atom a) → AtomInRange a c → atom_able rules a c ≡ true → LastAtom a post → AtomInOrder the_reader (pre ++ (atom_bytes a c ++ post)) a (length pre) c
  atom_in_order a c pre post t r h l = (step a c pre post t r h l, atom_placed a c pre post)

  atoms_in_order : (xs : List Atom) (c : Each AtomContent xs) (pre post : List ℕ) → T (every in_item xs) → HoldsEach AtomInRange xs c → able_each (atom_able rules) xs c ≡ true → AtomsInOrder the_reader (pre ++ (bytes_of_each atom_bytes xs c ++ post)) xs (length pre) c
  unfolding AtomsInOrder HoldsEach able_each bytes_of_each
  atoms_in_order [] c pre post t r h = tt
  atoms_in_order (a ∷ xs) c pre post t r h =
      let b = atom_bytes a c.0 in
      let more = bytes_of_each atom_bytes xs c.1 in
      let q : length (pre ++ b) ≡ length pre + length b = length-append pre b in
      let s = left_holds (in_item a) (every in_item xs) t in
      let can = both _ _ h in
      let first = atom_in_order a c.0 pre (more ++ post) (in_item_sane a s) r.0 can.0 (in_item_last a _ s) in
      let then = atoms_in_order xs c.1 (pre ++ b) post (right_holds (in_item a) (every in_item xs) t) r.1 can.1 in
      let P : List ℕ → Type 0 = λ w. AtomsInOrder the_reader (pre ++ w) (a ∷ xs) (length pre) c in
      subst P (sym (append_assoc b more post)) (first, rw (q, append_assoc pre b (more ++ post)) at then)

  module _ (i : Item) (sane : T (sane_item i)) where
    items_in_order : (cs : List (ItemContent i)) (pre post : List ℕ) → ItemsInRange i cs → items_able rules i cs ≡ true → ItemsInOrder the_reader (pre ++ (items_bytes i cs ++ post)) i (length pre) cs
    unfolding ItemsInOrder ItemsInRange items_able items_bytes item_bytes ItemInRange item_able
    items_in_order [] pre post r h = tt
    items_in_order (c ∷ cs) pre post r h =
        let b = item_bytes i c in
        let more = items_bytes i cs in
        let q : length (pre ++ b) ≡ length pre + length b = length-append pre b in
        let can = both _ _ h in
        let first = atoms_in_order i.atoms c pre (more ++ post) (left_holds (every in_item i.atoms) (leb 1 (item_least i)) sane) r.0 can.0 in
        let then = items_in_order cs (pre ++ b) post r.1 can.1 in
        let P : List ℕ → Type 0 = λ w. ItemsInOrder the_reader (pre ++ w) i (length pre) (c ∷ cs) in
        subst P (sym (append_assoc b more post)) (first, rw (q, append_assoc pre b (more ++ post)) at then)

  field_in_order : (x : Field) (c : Content x) (pre post : List ℕ) → T (sane_field x) → InRange x c → able rules x c ≡ true → LastField x post → FieldInOrder the_reader (pre ++ (bytes x c ++ post)) x (length pre) c
  unfolding FieldInOrder InRange able bytes
  field_in_order (one a) c pre post t r h l = atom_in_order a c pre post t r h l
  field_in_order (counted k i) cs pre post t r h l =
      let n = be 2 (length cs) in
      let can = both _ _ h in
      let few = count_back k (length cs) (leb-true _ _ can.0) in
      let q : length (pre ++ n) ≡ length pre + 2 = simp (length-append, length-be) refl in
      let items = items_in_order i t cs (pre ++ n) post r can.1 in
      rw (append_assoc n (items_bytes i cs) post) (number_back 2 (length cs) pre (items_bytes i cs ++ post) few.0, rw (q, append_assoc pre n (items_bytes i cs ++ post)) at items)
  field_in_order (ended i) cs pre post t r h l =
      let b = items_bytes i cs in
      let can = both _ _ h in
      let q : length (pre ++ b) ≡ length pre + length b = length-append pre b in
      let z : length pre + length b + 1 ≡ length pre + length (b ++ 0 ∷ []) = simp length-append (omega arith) in
      let zero = byte_back 0 (pre ++ b) post (omega arith) in
      rw (append_assoc b (0 ∷ []) post) (items_in_order i t cs pre (0 ∷ post) r can.0, rw (q, z, append_assoc pre b (0 ∷ post)) at zero)

  fields_in_order : (xs : List Field) (c : Each Content xs) (pre : List ℕ) → T (every sane_field xs) → T (rest_last xs) → HoldsEach InRange xs c → able_each (able rules) xs c ≡ true → FieldsInOrder the_reader (pre ++ bytes_of_each bytes xs c) xs (length pre) c
  unfolding FieldsInOrder HoldsEach able_each bytes_of_each
  fields_in_order [] c pre t s r h = simp append-nil refl
  fields_in_order (x ∷ xs) c pre t s r h =
      let b = bytes x c.0 in
      let more = bytes_of_each bytes xs c.1 in
      let q : length (pre ++ b) ≡ length pre + length b = length-append pre b in
      let can = both _ _ h in
      let first = field_in_order x c.0 pre more (left_holds (sane_field x) (every sane_field xs) t) r.0 can.0 (last x xs s c.1) in
      let then = fields_in_order xs c.1 (pre ++ b) (right_holds (sane_field x) (every sane_field xs) t) (last_of x xs s) r.1 can.1 in
      (first, rw (q, append_assoc pre b more) at then)

pub in_order : InOrder the_reader
unfolding frame body_bytes
in_order rules m k c w =
    let sane = row_sane m w.known k w.kind in
    let b = body_bytes k c in
    let h = header m.envelope k.tag (length b) in
    rw (header_long m.envelope k.tag (length b)) at (fields_in_order rules k.body c h sane.fields sane.last w.in_range w.writable)
