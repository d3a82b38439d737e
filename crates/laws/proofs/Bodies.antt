-- Fields and bodies: their bytes are read as them. A body's fields are read one after the other, so a law of each field is one of every body.
use Prim.Native.Nat.{ℕ, ◌+◌, ◌≤◌}
use mathlib.Core.Bool.{Bool, true, false, cond, ◌&&◌}
use mathlib.Core.List.{List, [], ◌∷◌, ◌++◌, append-nil}
use mathlib.Core.Path.{◌≡◌, refl, ap, sym, ◌∙◌}
use native.Mathlib.Omega.{arith}
use borrow.Author.Tests.{le-ltb, ltb-false}
use lib.Dec.{T, ltb}
use lib.ListN.{length, drop, drop_of_length-le, length-append}
use Rattle.protocol.specs.declared.Rules.{Rules}
use Rattle.protocol.specs.Bytes.{Bytes}
use Rattle.protocol.specs.Decode.{closed, read_body}
use Rattle.protocol.specs.Each.{Each, bytes_of_each, slots_of_each, able_each, HoldsEach}
use Rattle.protocol.specs.Fields.{Atom, unsigned, signed, one_of, text, value, rest, AtomSlot, Field, one, counted, ended, Content, Slot, InRange, able, bytes, slot}
use Rattle.protocol.specs.Kinds.{Kind}
use Rattle.protocol.specs.Reading.{Read, got, bad, and_then, read, read_each}
use Rattle.protocol.specs.Refusals.{bytes_left}
use Rattle.protocol.specs.WellFormed.{Contents, body_bytes, AllInRange, all_able}
use Rattle.protocol.proofs.Basics.{zero_one, left_holds, right_holds}
use Rattle.protocol.proofs.Find.{every}
use Rattle.laws.specs.Faults.{LastField}
use Rattle.laws.proofs.Atoms.{sane_atom, atom_back, AtomWas, atom_was}
use Rattle.laws.proofs.EachReads.{ReadsBack, AllReadBack, each_reads_back, AllWere, EachWas, each_was}
use Rattle.laws.proofs.Items.{both, sane_item}
use Rattle.laws.proofs.Lists.{counted_back, ended_back, FieldWas, counted_was, ended_was}

-- ---- what the bodies of the table are like: the rest of a frame stands only at its end

abbrev pub sane_field : Field → Bool
sane_field (one a) = sane_atom a
sane_field (counted k i) = sane_item i
sane_field (ended i) = sane_item i

-- a field that does not read to the frame's end
abbrev pub stops : Field → Bool
stops (one (unsigned w)) = true
stops (one (signed w)) = true
stops (one (one_of bs)) = true
stops (one text) = true
stops (one value) = true
stops (one rest) = false
stops (counted k i) = true
stops (ended i) = true

abbrev pub rest_last : List Field → Bool
rest_last [] = true
rest_last (x ∷ []) = true
rest_last (x ∷ y ∷ ys) = stops x && rest_last (y ∷ ys)

pub last_nothing : (x : Field) → LastField x []
last_nothing (one (unsigned w)) = tt
last_nothing (one (signed w)) = tt
last_nothing (one (one_of bs)) = tt
last_nothing (one text) = tt
last_nothing (one value) = tt
last_nothing (one rest) = refl
last_nothing (counted k i) = tt
last_nothing (ended i) = tt

pub last_stops : (x : Field) (post : List ℕ) → T (stops x) → LastField x post
last_stops (one (unsigned w)) post t = tt
last_stops (one (signed w)) post t = tt
last_stops (one (one_of bs)) post t = tt
last_stops (one text) post t = tt
last_stops (one value) post t = tt
last_stops (one rest) post t = absurd t
last_stops (counted k i) post t = tt
last_stops (ended i) post t = tt

-- ---- the bytes of fields are read as them

pub field_back : (rules : Rules) (x : Field) (c : Content x) (post : List ℕ) → T (sane_field x) → InRange x c → able rules x c ≡ true → LastField x post → ReadsBack bytes slot (read rules) x c post
unfolding bytes slot InRange able
field_back rules (one a) c post t r h l pre = atom_back rules a c post t r h l pre
field_back rules (counted k i) cs post t r h l pre = counted_back rules i t k cs pre post r h
field_back rules (ended i) cs post t r h l pre = ended_back rules i t cs pre post r h

fields_back : (rules : Rules) (xs : List Field) (c : Each Content xs) → T (every sane_field xs) → T (rest_last xs) → HoldsEach InRange xs c → able_each (able rules) xs c ≡ true → AllReadBack bytes slot (read rules) xs c []
unfolding HoldsEach able_each bytes_of_each
fields_back rules [] c t s r h = tt
fields_back rules (x ∷ []) c t s r h = (field_back rules x c.0 [] (left_holds (sane_field x) true t) r.0 (both _ _ h).0 (last_nothing x), tt)
fields_back rules (x ∷ y ∷ ys) c t s r h =
    let b = both _ _ h in
    let first = field_back rules x c.0 _ (left_holds (sane_field x) (every sane_field (y ∷ ys)) t) r.0 b.0 (last_stops x _ (left_holds (stops x) (rest_last (y ∷ ys)) s)) in
    (first, fields_back rules (y ∷ ys) c.1 (right_holds (sane_field x) (every sane_field (y ∷ ys)) t) (right_holds (stops x) (rest_last (y ∷ ys)) s) r.1 b.1)

-- a body's bytes, up to the frame's end, are read as its content
pub body_back : {X : Type 0} (rules : Rules) (k : Kind) (make : Each Slot k.body → X) (c : Contents k) (pre : List ℕ) → T (every sane_field k.body) → T (rest_last k.body) → AllInRange k c → all_able rules k c ≡ true → read_body rules k make (pre ++ body_bytes k c) (length pre) ≡ got (make (slots_of_each bytes slot k.body (length pre) c)) (length pre + length (body_bytes k c))
unfolding body_bytes closed
body_back rules k make c pre t s r h =
    let b = bytes_of_each bytes k.body c in
    let e = each_reads_back bytes slot (read rules) k.body c pre [] (fields_back rules k.body c t s r h) in
    let l : length (pre ++ b) ≤ length pre + length b = simp length-append (omega arith) in
    rw (rw (append-nil b) at e, le-ltb _ _ l) refl

-- ---- what was read is fields

module _ (rules : Rules) (f : List ℕ) (b : Bytes f) where
  atom_field : (a : Atom) (p q : ℕ) (v : AtomSlot a) → AtomWas rules a f p v q → FieldWas rules (one a) f p v q
  unfolding bytes slot InRange able
  atom_field a p q v w = record { content = w.content; in_range = w.in_range; writable = w.writable; is = w.is; split = w.split; next = w.next; within = w.within }

  pub field_was : (x : Field) → T (sane_field x) → (p q : ℕ) (v : Slot x) → p ≤ length f → read rules x f p ≡ got v q → FieldWas rules x f p v q
  field_was (one a) t p q v l e = atom_field a p q v (atom_was rules f b p a t v q l e)
  field_was (counted k i) t p q v l e = counted_was rules i t f b p k v q e
  field_was (ended i) t p q v l e = ended_was rules i t f b p l v q e

  fields_were : (xs : List Field) → T (every sane_field xs) → EachWas bytes slot (read rules) InRange (able rules) f xs
  fields_were [] t = tt
  fields_were (x ∷ xs) t = (field_was x (left_holds (sane_field x) (every sane_field xs) t), fields_were xs (right_holds (sane_field x) (every sane_field xs) t))

  -- a body that was read to the frame's end is the bytes of a right content
  pub record BodyWas {X : Type 0} (k : Kind) (make : Each Slot k.body → X) (p : ℕ) (x : X) : Type 0 where
    pub content : Contents k
    pub in_range : AllInRange k content
    pub writable : all_able rules k content ≡ true
    pub is : x ≡ make (slots_of_each bytes slot k.body p content)
    pub split : drop p f ≡ body_bytes k content

  closed_by : {X : Type 0} (k : Kind) (make : Each Slot k.body → X) (p a : ℕ) (v : Each Slot k.body) (x : X) (q : ℕ) → AllWere bytes slot (read rules) InRange (able rules) k.body f p v a → (t : Bool) → ltb a (length f) ≡ t → cond t (bad bytes_left a) (got (make v) a) ≡ got x q → BodyWas k make p x
  unfolding body_bytes
  closed_by k make p a v x q w true t e = absurd (zero_one cc)
  closed_by k make p a v x q w false t e =
      let ex : make v ≡ x = cc in
      let end : length f ≤ a = ltb-false _ _ t in
      record { content = w.content; in_range = w.in_range; writable = w.writable; is = sym ex ∙ ap make w.is; split = w.split ∙ rw (drop_of_length-le f end) (append-nil (bytes_of_each bytes k.body w.content)) }

  body_by : {X : Type 0} (k : Kind) (make : Each Slot k.body → X) (p : ℕ) → T (every sane_field k.body) → p ≤ length f → (x : X) (q : ℕ) (r : Read (Each Slot k.body)) → read_each (read rules) k.body f p ≡ r → and_then r (λ v a. closed f a (make v)) ≡ got x q → BodyWas k make p x
  unfolding closed
  body_by k make p t l x q (bad n c) r e = absurd (zero_one cc)
  body_by k make p t l x q (got v a) r e = closed_by k make p a v x q (each_was bytes slot (read rules) InRange (able rules) f k.body p a v l (fields_were k.body t) r) (ltb a (length f)) refl e

  pub body_was : {X : Type 0} (k : Kind) (make : Each Slot k.body → X) (p : ℕ) → T (every sane_field k.body) → p ≤ length f → (x : X) (q : ℕ) → read_body rules k make f p ≡ got x q → BodyWas k make p x
  body_was k make p t l x q e = body_by k make p t l x q (read_each (read rules) k.body f p) refl e
