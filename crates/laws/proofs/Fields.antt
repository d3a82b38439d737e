-- Law 3: the part of the buffer at each of a record's positions is that field's content, and a list's start and count are its content's.
use Prim.Native.Nat.{ℕ, ◌+◌, ◌≤◌}
use mathlib.Core.List.{List, [], ◌∷◌, ◌++◌, append_assoc}
use mathlib.Core.Option.{some, none}
use mathlib.Core.Path.{◌≡◌, refl, sym, ◌∙◌, subst}
use native.Mathlib.Omega.{arith}
use borrow.Author.Tests.{le-ltb}
use lib.ListN.{length, drop, length-append, take-append-drop}
use lib.Seq.{drop-append_seam, take-append_seam}
use Rattle.protocol.specs.Bytes.{part_of, be}
use Rattle.protocol.specs.Each.{Each, bytes_of_each, slots_of_each}
use Rattle.protocol.specs.Fields.{Atom, unsigned, signed, one_of, text, value, rest, AtomContent, value_bytes, atom_bytes, value_slot, atom_slot, Field, one, counted, ended, Content, bytes, slot}
use Rattle.protocol.specs.WellFormed.{body_bytes, header, body_start, frame, record_of}
use Rattle.laws.specs.Places.{ValuePlaced, AtomPlaced, FieldPlaced, FieldsPlaced}
use Rattle.laws.specs.Statements.{Fields, the_decoder}
use Rattle.laws.proofs.Complete.{header_long}
use Rattle.laws.proofs.Numbers.{length-be}
use Rattle.laws.proofs.Sound.{sound}

-- the part where some bytes stand
pub part_back : (c pre post : List ℕ) → part_of (pre ++ (c ++ post)) (length pre) (length c) ≡ c
unfolding part_of
part_back c pre post =
    let l : length pre + length c ≤ length (pre ++ (c ++ post)) = simp length-append (omega arith) in
    rw (le-ltb _ _ l, drop-append_seam pre (c ++ post)) (take-append_seam c post)

pub atom_placed : (a : Atom) (c : AtomContent a) (pre post : List ℕ) → AtomPlaced (pre ++ (atom_bytes a c ++ post)) a (atom_slot a (length pre) c) c
unfolding AtomPlaced ValuePlaced atom_bytes value_bytes atom_slot value_slot
atom_placed (unsigned w) c pre post = refl
atom_placed (signed w) c pre post = refl
atom_placed (one_of bs) c pre post = refl
atom_placed text c pre post = rw (append_assoc c (0 ∷ []) post) (part_back c pre (0 ∷ post))
atom_placed value none pre post = tt
atom_placed value (some c) pre post =
    let n = be 4 (length c) in
    let q : length (pre ++ n) ≡ length pre + 4 = simp (length-append, length-be) refl in
    rw (append_assoc n c post, ← append_assoc pre n (c ++ post), ← q) (part_back c (pre ++ n) post)
atom_placed rest c pre post = part_back c pre post

field_placed : (x : Field) (c : Content x) (pre post : List ℕ) → FieldPlaced (pre ++ (bytes x c ++ post)) x (length pre) (slot x (length pre) c) c
unfolding FieldPlaced bytes slot
field_placed (one a) c pre post = atom_placed a c pre post
field_placed (counted k i) cs pre post = (refl, refl)
field_placed (ended i) cs pre post = (refl, refl)

pub fields_placed : (xs : List Field) (c : Each Content xs) (pre post : List ℕ) → FieldsPlaced (pre ++ (bytes_of_each bytes xs c ++ post)) xs (length pre) (slots_of_each bytes slot xs (length pre) c) c
unfolding FieldsPlaced bytes_of_each slots_of_each
fields_placed [] c pre post = tt
fields_placed (x ∷ xs) c pre post =
    let b = bytes x c.0 in
    let r = bytes_of_each bytes xs c.1 in
    let q : length (pre ++ b) ≡ length pre + length b = length-append pre b in
    let then = fields_placed xs c.1 (pre ++ b) post in
    let P : List ℕ → Type 0 = λ w. FieldsPlaced (pre ++ w) (x ∷ xs) (length pre) (slots_of_each bytes slot (x ∷ xs) (length pre) c) c in
    subst P (sym (append_assoc b r post)) (field_placed x c.0 pre (r ++ post), rw (q, append_assoc pre b (r ++ post)) at then)

pub fields : Fields the_decoder
unfolding record_of frame body_bytes
fields rules s r n b e =
    let a = sound rules s r n b e in
    let env = a.mode.envelope in
    let k = a.kind in
    let body = body_bytes k a.content in
    let h = header env k.tag (length body) in
    let whole : s ≡ h ++ (body ++ drop n s) = sym (take-append-drop n s) ∙ rw (a.bytes, append_assoc h body (drop n s)) refl in
    let placed = rw (header_long env k.tag (length body), ← whole) at (fields_placed k.body a.content h (drop n s)) in
    record { accepted = a; slots = slots_of_each bytes slot k.body (body_start env) a.content; is = a.is; placed = placed }
