-- Element calls: element n of list l of a well-formed frame is item n of that list of its content, where it stands.
use Prim.Native.Nat.{ℕ, zero, suc, ◌+◌, ◌≤◌, ◌<◌}
use mathlib.Core.Bool.{Bool, true, false, cond}
use mathlib.Core.List.{List, [], ◌∷◌, ◌++◌, append_assoc, append-nil}
use mathlib.Core.Option.{Option, some, none}
use mathlib.Core.Path.{◌≡◌, refl, ap, sym, subst}
use native.Mathlib.Omega.{arith}
use borrow.Author.Tests.{ltb-true, ltb-false}
use lib.Dec.{T, leb, ltb}
use lib.ListN.{length, length-append}
use lib.Seq.{take-append_seam}
use Rattle.protocol.specs.Found as F
use Rattle.protocol.specs.Found.{Found as ElementAnswer}
use Rattle.protocol.specs.declared.Rules.{Rules}
use Rattle.protocol.specs.Answers.{of_element}
use Rattle.protocol.specs.Bytes.{be}
use Rattle.protocol.specs.Each.{Each, bytes_of_each, slots_of_each, able_each, HoldsEach}
use Rattle.protocol.specs.Elements.{list_in, read_item_at, element_by, found_by, element_at, element_in, element_of}
use Rattle.protocol.specs.Fields.{Atom, AtomContent, atom_bytes, atom_slot, Item, ItemContent, item_able, item_bytes, item_slots, items_bytes, ItemsInRange, items_able, none_ends, Count, most, Field, one, counted, ended, Content, InRange, able, bytes, slot}
use Rattle.protocol.specs.Kinds.{Kind, Mode}
use Rattle.protocol.specs.Reading.{pass_items}
use Rattle.protocol.specs.Refusals.{no_such_element}
use Rattle.protocol.specs.WellFormed.{Contents, body_bytes, header, body_start, frame, WellFormed}
use Rattle.protocol.proofs.Find.{every}
use Rattle.protocol.proofs.Basics.{left_holds, right_holds}
use Rattle.laws.specs.ElementStatements.{Elements}
use Rattle.laws.specs.Items.{Found, item_from, found, AtomsPlaced, Answers}
use Rattle.laws.specs.Statements.{the_element_call}
use Rattle.laws.proofs.Bodies.{sane_field}
use Rattle.laws.proofs.Complete.{header_long, frame_back, content_back}
use Rattle.laws.proofs.Fields.{atom_placed}
use Rattle.laws.proofs.Items.{both, sane_item, item_back}
use Rattle.laws.proofs.Numbers.{length-be}
use Rattle.laws.proofs.SaneKinds.{row_sane}

-- what is answered of an item that was found, or of none
abbrev answer_of : Option Found → ElementAnswer
answer_of none = F.Refused no_such_element 0
answer_of (some x) = F.Is (x.item.element (item_slots x.item x.place x.content))

-- ---- item n of a list

-- past the last there is none
pub no_item : (i : Item) (p : ℕ) (cs : List (ItemContent i)) (n : ℕ) → length cs ≤ n → item_from i p cs n ≡ none
unfolding item_from
no_item i p [] n h = refl
no_item i p (c ∷ cs) zero h = absurd (omega arith)
no_item i p (c ∷ cs) (suc n) h = no_item i (p + length (item_bytes i c)) cs n (omega arith)

module _ (rules : Rules) (i : Item) (sane : T (sane_item i)) where
  item_at : (cs : List (ItemContent i)) (n : ℕ) (pre post : List ℕ) → n < length cs → ItemsInRange i cs → items_able rules i cs ≡ true → element_by i.element (read_item_at rules i n (pre ++ (items_bytes i cs ++ post)) (length pre)) ≡ answer_of (item_from i (length pre) cs n)
  unfolding item_from items_bytes ItemsInRange items_able pass_items element_by
  item_at [] n pre post h r a = absurd (omega arith)
  item_at (c ∷ cs) zero pre post h r a = rw (append_assoc (item_bytes i c) (items_bytes i cs) post, item_back rules i sane c pre (items_bytes i cs ++ post) r.0 (both _ _ a).0) refl
  item_at (c ∷ cs) (suc n) pre post h r a =
      let b = item_bytes i c in
      let able = both (item_able rules i c) (items_able rules i cs) a in
      let q : length (pre ++ b) ≡ length pre + length b = length-append pre b in
      let ih = item_at cs n (pre ++ b) post (omega arith) r.1 able.1 in
      rw (append_assoc b (items_bytes i cs) post, item_back rules i sane c pre (items_bytes i cs ++ post) r.0 able.0, ← append_assoc pre b (items_bytes i cs ++ post), ← q) ih

  at_by : (cs : List (ItemContent i)) (n : ℕ) (pre post : List ℕ) → ItemsInRange i cs → items_able rules i cs ≡ true → (t : Bool) → ltb n (length cs) ≡ t → cond t (element_by i.element (read_item_at rules i n (pre ++ (items_bytes i cs ++ post)) (length pre))) (F.Refused no_such_element 0) ≡ answer_of (item_from i (length pre) cs n)
  at_by cs n pre post r a true t = item_at cs n pre post (ltb-true _ _ t) r a
  at_by cs n pre post r a false t = sym (ap answer_of (no_item i (length pre) cs n (ltb-false _ _ t)))

  -- of the list of those items
  list_at : (cs : List (ItemContent i)) (n : ℕ) (pre post : List ℕ) → ItemsInRange i cs → items_able rules i cs ≡ true → element_at rules (pre ++ (items_bytes i cs ++ post)) n (some (record { item = i; list = record { start = length pre; count = length cs } })) ≡ answer_of (item_from i (length pre) cs n)
  unfolding element_at
  list_at cs n pre post r a = at_by cs n pre post r a (ltb n (length cs)) refl

-- ---- list l of a body

module _ (rules : Rules) where
  counted_at : (i : Item) → T (sane_item i) → (k : Count) (cs : List (ItemContent i)) (n : ℕ) (pre post : List ℕ) → ItemsInRange i cs → able rules (counted k i) cs ≡ true → element_at rules (pre ++ (bytes (counted k i) cs ++ post)) n (some (record { item = i; list = slot (counted k i) (length pre) cs })) ≡ answer_of (item_from i (length pre + 2) cs n)
  unfolding bytes slot able
  counted_at i sane k cs n pre post r a =
      let h = be 2 (length cs) in
      let q : length (pre ++ h) ≡ length pre + 2 = simp (length-append, length-be) refl in
      rw (append_assoc h (items_bytes i cs) post, ← append_assoc pre h (items_bytes i cs ++ post), ← q) (list_at rules i sane cs n (pre ++ h) post r (both (leb (length cs) (most k)) (items_able rules i cs) a).1)

  ended_at : (i : Item) → T (sane_item i) → (cs : List (ItemContent i)) (n : ℕ) (pre post : List ℕ) → ItemsInRange i cs → able rules (ended i) cs ≡ true → element_at rules (pre ++ (bytes (ended i) cs ++ post)) n (some (record { item = i; list = slot (ended i) (length pre) cs })) ≡ answer_of (item_from i (length pre) cs n)
  unfolding bytes slot able
  ended_at i sane cs n pre post r a = rw (append_assoc (items_bytes i cs) (0 ∷ []) post) (list_at rules i sane cs n pre (0 ∷ post) r (both (items_able rules i cs) (none_ends i cs) a).0)

  -- in the fields after the first
  Found_at : (xs : List Field) → Each Content xs → ℕ → ℕ → List ℕ → List ℕ → Type 0
  Found_at xs c l n pre post = element_at rules (pre ++ (bytes_of_each bytes xs c ++ post)) n (list_in xs l (slots_of_each bytes slot xs (length pre) c)) ≡ answer_of (found xs (length pre) c l n)

  module _ (x : Field) (xs : List Field) (c : Each Content (x ∷ xs)) (l n : ℕ) (pre post : List ℕ) where
    after_field : Found_at xs c.1 l n (pre ++ bytes x c.0) post → element_at rules (pre ++ (bytes_of_each bytes (x ∷ xs) c ++ post)) n (list_in xs l (slots_of_each bytes slot xs (length pre + length (bytes x c.0)) c.1)) ≡ answer_of (found xs (length pre + length (bytes x c.0)) c.1 l n)
    unfolding Found_at bytes_of_each
    after_field h =
        let b = bytes x c.0 in
        let r = bytes_of_each bytes xs c.1 in
        rw (append_assoc b r post, ← append_assoc pre b (r ++ post), ← length-append pre b) h

    first_field : element_at rules (pre ++ (bytes x c.0 ++ (bytes_of_each bytes xs c.1 ++ post))) n (list_in (x ∷ xs) l (slots_of_each bytes slot (x ∷ xs) (length pre) c)) ≡ answer_of (found (x ∷ xs) (length pre) c l n) → Found_at (x ∷ xs) c l n pre post
    unfolding Found_at bytes_of_each
    first_field h = rw (append_assoc (bytes x c.0) (bytes_of_each bytes xs c.1) post) h

  found_at : (xs : List Field) (c : Each Content xs) → T (every sane_field xs) → HoldsEach InRange xs c → able_each (able rules) xs c ≡ true → (l n : ℕ) (pre post : List ℕ) → Found_at xs c l n pre post
  unfolding Found_at found list_in slots_of_each HoldsEach able_each InRange element_at
  found_at [] c t r a l n pre post = refl
  found_at (one x ∷ xs) c t r a l n pre post = after_field (one x) xs c l n pre post (found_at xs c.1 (right_holds (sane_field (one x)) (every sane_field xs) t) r.1 (both (able rules (one x) c.0) (able_each (able rules) xs c.1) a).1 l n (pre ++ bytes (one x) c.0) post)
  found_at (counted k i ∷ xs) c t r a zero n pre post = first_field (counted k i) xs c 0 n pre post (counted_at i (left_holds (sane_item i) (every sane_field xs) t) k c.0 n pre _ r.0 (both (able rules (counted k i) c.0) (able_each (able rules) xs c.1) a).0)
  found_at (counted k i ∷ xs) c t r a (suc l) n pre post = after_field (counted k i) xs c l n pre post (found_at xs c.1 (right_holds (sane_item i) (every sane_field xs) t) r.1 (both (able rules (counted k i) c.0) (able_each (able rules) xs c.1) a).1 l n (pre ++ bytes (counted k i) c.0) post)
  found_at (ended i ∷ xs) c t r a zero n pre post = first_field (ended i) xs c 0 n pre post (ended_at i (left_holds (sane_item i) (every sane_field xs) t) c.0 n pre _ r.0 (both (able rules (ended i) c.0) (able_each (able rules) xs c.1) a).0)
  found_at (ended i ∷ xs) c t r a (suc l) n pre post = after_field (ended i) xs c l n pre post (found_at xs c.1 (right_holds (sane_item i) (every sane_field xs) t) r.1 (both (able rules (ended i) c.0) (able_each (able rules) xs c.1) a).1 l n (pre ++ bytes (ended i) c.0) post)

-- ---- the parts of the buffer at an item's positions

atoms_placed : (xs : List Atom) (c : Each AtomContent xs) (pre post : List ℕ) → AtomsPlaced (pre ++ (bytes_of_each atom_bytes xs c ++ post)) xs (slots_of_each atom_bytes atom_slot xs (length pre) c) c
unfolding AtomsPlaced bytes_of_each slots_of_each
atoms_placed [] c pre post = tt
atoms_placed (a ∷ xs) c pre post =
    let b = atom_bytes a c.0 in
    let r = bytes_of_each atom_bytes xs c.1 in
    let q : length (pre ++ b) ≡ length pre + length b = length-append pre b in
    let then = atoms_placed xs c.1 (pre ++ b) post in
    let P : List ℕ → Type 0 = λ w. AtomsPlaced (pre ++ w) (a ∷ xs) (slots_of_each atom_bytes atom_slot (a ∷ xs) (length pre) c) c in
    subst P (sym (append_assoc b r post)) (atom_placed a c.0 pre (r ++ post), rw (q, append_assoc pre b (r ++ post)) at then)

Placed : List ℕ → Option Found → Type 0
Placed s none = Unit {0}
Placed s (some x) = AtomsPlaced s x.item.atoms (item_slots x.item x.place x.content) x.content

items_placed : (i : Item) (cs : List (ItemContent i)) (n : ℕ) (pre post : List ℕ) → Placed (pre ++ (items_bytes i cs ++ post)) (item_from i (length pre) cs n)
unfolding Placed item_from items_bytes item_bytes item_slots
items_placed i [] n pre post = tt
items_placed i (c ∷ cs) zero pre post = rw (append_assoc (item_bytes i c) (items_bytes i cs) post) (atoms_placed i.atoms c pre (items_bytes i cs ++ post))
items_placed i (c ∷ cs) (suc n) pre post =
    let b = item_bytes i c in
    rw (append_assoc b (items_bytes i cs) post, ← append_assoc pre b (items_bytes i cs ++ post), ← length-append pre b) (items_placed i cs n (pre ++ b) post)

counted_placed : (k : Count) (i : Item) (cs : List (ItemContent i)) (n : ℕ) (pre post : List ℕ) → Placed (pre ++ (bytes (counted k i) cs ++ post)) (item_from i (length pre + 2) cs n)
unfolding bytes
counted_placed k i cs n pre post =
    let h = be 2 (length cs) in
    let q : length (pre ++ h) ≡ length pre + 2 = simp (length-append, length-be) refl in
    rw (append_assoc h (items_bytes i cs) post, ← append_assoc pre h (items_bytes i cs ++ post), ← q) (items_placed i cs n (pre ++ h) post)

ended_placed : (i : Item) (cs : List (ItemContent i)) (n : ℕ) (pre post : List ℕ) → Placed (pre ++ (bytes (ended i) cs ++ post)) (item_from i (length pre) cs n)
unfolding bytes
ended_placed i cs n pre post = rw (append_assoc (items_bytes i cs) (0 ∷ []) post) (items_placed i cs n pre (0 ∷ post))

module _ (x : Field) (xs : List Field) (c : Each Content (x ∷ xs)) (l n : ℕ) (pre post : List ℕ) where
  placed_after : Placed ((pre ++ bytes x c.0) ++ (bytes_of_each bytes xs c.1 ++ post)) (found xs (length (pre ++ bytes x c.0)) c.1 l n) → Placed (pre ++ (bytes_of_each bytes (x ∷ xs) c ++ post)) (found xs (length pre + length (bytes x c.0)) c.1 l n)
  unfolding bytes_of_each
  placed_after h =
      let b = bytes x c.0 in
      let r = bytes_of_each bytes xs c.1 in
      rw (append_assoc b r post, ← append_assoc pre b (r ++ post), ← length-append pre b) h

  placed_first : (o : Option Found) → Placed (pre ++ (bytes x c.0 ++ (bytes_of_each bytes xs c.1 ++ post))) o → Placed (pre ++ (bytes_of_each bytes (x ∷ xs) c ++ post)) o
  unfolding bytes_of_each
  placed_first o h = rw (append_assoc (bytes x c.0) (bytes_of_each bytes xs c.1) post) h

found_placed : (xs : List Field) (c : Each Content xs) (l n : ℕ) (pre post : List ℕ) → Placed (pre ++ (bytes_of_each bytes xs c ++ post)) (found xs (length pre) c l n)
unfolding Placed found
found_placed [] c l n pre post = tt
found_placed (one a ∷ xs) c l n pre post = placed_after (one a) xs c l n pre post (found_placed xs c.1 l n (pre ++ bytes (one a) c.0) post)
found_placed (counted k i ∷ xs) c zero n pre post = placed_first (counted k i) xs c 0 n pre post (item_from i (length pre + 2) c.0 n) (counted_placed k i c.0 n pre (bytes_of_each bytes xs c.1 ++ post))
found_placed (counted k i ∷ xs) c (suc l) n pre post = placed_after (counted k i) xs c l n pre post (found_placed xs c.1 l n (pre ++ bytes (counted k i) c.0) post)
found_placed (ended i ∷ xs) c zero n pre post = placed_first (ended i) xs c 0 n pre post (item_from i (length pre) c.0 n) (ended_placed i c.0 n pre (bytes_of_each bytes xs c.1 ++ post))
found_placed (ended i ∷ xs) c (suc l) n pre post = placed_after (ended i) xs c l n pre post (found_placed xs c.1 l n (pre ++ bytes (ended i) c.0) post)

-- ---- the theorem

answers : (s : List ℕ) (o : Option Found) (e : ElementAnswer) → e ≡ answer_of o → Placed s o → Answers s o e
unfolding Placed of_element
answers s none e h p = ap of_element h
answers s (some x) e h p = record { is = ap of_element h; placed = p }

pub element_is : (rules : Rules) (m : Mode) (k : Kind) (c : Contents k) (t : List ℕ) (l n : ℕ) → WellFormed rules m k c → element_of rules (frame m.envelope k c ++ t) l n ≡ answer_of (found k.body (body_start m.envelope) c l n)
unfolding element_of element_in found_by Found_at frame body_bytes
element_is rules m k c t l n w =
    let e = m.envelope in
    let b = body_bytes k c in
    let h = header e k.tag (length b) in
    let at = found_at rules k.body c (row_sane m w.known k w.kind).fields w.in_range w.writable l n h [] in
    let is = rw (header_long e k.tag (length b), append-nil b) at at in
    rw (frame_back rules m k c t w, take-append_seam (frame e k c) t, content_back rules m k c (list_in k.body l) w) is

pub elements : Elements the_element_call
unfolding frame body_bytes
elements rules m k c t l n w =
    let e = m.envelope in
    let b = body_bytes k c in
    let h = header e k.tag (length b) in
    let placed = rw (header_long e k.tag (length b), ← append_assoc h b t) at (found_placed k.body c l n h t) in
    answers (frame e k c ++ t) (found k.body (body_start e) c l n) _ (element_is rules m k c t l n w) placed
