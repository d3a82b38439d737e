-- Items and lists of them: their bytes are read as them.
use Prim.Native.Nat.{ℕ, zero, suc, ◌+◌, ◌*◌, ◌/◌, ◌%◌, ◌≤◌}
use mathlib.Core.Bool.{Bool, true, false, ◌&&◌, false≢true}
use mathlib.Core.List.{List, [], ◌∷◌, ◌++◌, append_assoc}
use mathlib.Core.Option.{some, none}
use mathlib.Core.Path.{◌≡◌, refl, ap, ◌∙◌}
use native.Mathlib.Omega.{arith}
use lib.Dec.{T, leb}
use lib.ListN.{length, drop, length-append}
use Rattle.protocol.specs.declared.Rules.{Rules}
use Rattle.protocol.specs.Bytes.{Bytes, be}
use Rattle.protocol.specs.Each.{Each, bytes_of_each, able_each, HoldsEach, least_of_each}
use Rattle.protocol.specs.Fields.{Atom, unsigned, signed, one_of, text, value, rest, AtomContent, AtomSlot, ValueInRange, AtomInRange, atom_able, value_bytes, atom_bytes, atom_slot, atom_least, Item, ItemContent, ItemInRange, item_able, item_bytes, item_slots, item_least, items_bytes, ItemsInRange, items_able}
use Rattle.protocol.specs.Reading.{Read, got, bad, and_then, read_atom, read_item, pass_items}
use Rattle.protocol.proofs.Basics.{zero_one, left_holds, right_holds}
use Rattle.protocol.proofs.Find.{every}
use Rattle.laws.specs.Faults.{LastAtom}
use Rattle.laws.proofs.Atoms.{sane_atom, atom_back, atom_was}
use Rattle.laws.proofs.EachReads.{AllReadBack, each_reads_back, AllWere, EachWas, each_was}
use Rattle.laws.proofs.Numbers.{length-be, bytes_append}

-- both of two tests passed
pub both : (a b : Bool) → a && b ≡ true → (a ≡ true) × (b ≡ true)
both true b h = (refl, h)
both false b h = absurd (false≢true h)

-- ---- what an item of the table is like: no rest in it, and at least a byte

abbrev pub in_item : Atom → Bool
in_item (unsigned w) = true
in_item (signed zero) = false
in_item (signed (suc w)) = true
in_item (one_of bs) = true
in_item text = true
in_item value = true
in_item rest = false

abbrev pub sane_item : Item → Bool
sane_item i = every in_item i.atoms && leb 1 (item_least i)

pub in_item_sane : (a : Atom) → T (in_item a) → T (sane_atom a)
in_item_sane (unsigned w) t = tt
in_item_sane (signed zero) t = absurd t
in_item_sane (signed (suc w)) t = tt
in_item_sane (one_of bs) t = tt
in_item_sane text t = tt
in_item_sane value t = tt
in_item_sane rest t = absurd t

pub in_item_last : (a : Atom) (post : List ℕ) → T (in_item a) → LastAtom a post
in_item_last (unsigned w) post t = tt
in_item_last (signed w) post t = tt
in_item_last (one_of bs) post t = tt
in_item_last text post t = tt
in_item_last value post t = tt
in_item_last rest post t = absurd t

-- ---- an item

atoms_back : (rules : Rules) (xs : List Atom) (c : Each AtomContent xs) (post : List ℕ) → T (every in_item xs) → HoldsEach AtomInRange xs c → able_each (atom_able rules) xs c ≡ true → AllReadBack atom_bytes atom_slot (read_atom rules) xs c post
unfolding HoldsEach able_each
atoms_back rules [] c post t r h = tt
atoms_back rules (a ∷ xs) c post t r h =
    let s = left_holds (in_item a) (every in_item xs) t in
    let b = both _ _ h in
    (atom_back rules a c.0 _ (in_item_sane a s) r.0 b.0 (in_item_last a _ s), atoms_back rules xs c.1 post (right_holds (in_item a) (every in_item xs) t) r.1 b.1)

module _ (rules : Rules) (i : Item) (sane : T (sane_item i)) where
  pub item_back : (c : ItemContent i) (pre post : List ℕ) → ItemInRange i c → item_able rules i c ≡ true → read_item rules i (pre ++ (item_bytes i c ++ post)) (length pre) ≡ got (item_slots i (length pre) c) (length pre + length (item_bytes i c))
  unfolding item_bytes item_slots ItemInRange item_able
  item_back c pre post r h = each_reads_back atom_bytes atom_slot (read_atom rules) i.atoms c pre post (atoms_back rules i.atoms c post (left_holds (every in_item i.atoms) (leb 1 (item_least i)) sane) r h)

  -- items one after the other
  pub pass_back : (cs : List (ItemContent i)) (pre post : List ℕ) → ItemsInRange i cs → items_able rules i cs ≡ true → pass_items rules i (length cs) (pre ++ (items_bytes i cs ++ post)) (length pre) ≡ got tt (length pre + length (items_bytes i cs))
  unfolding pass_items items_bytes ItemsInRange items_able
  pass_back [] pre post r h = ap (got tt) (omega arith)
  pass_back (c ∷ cs) pre post r h =
      let b = item_bytes i c in
      let t = items_bytes i cs in
      let able = both _ _ h in
      let q : length (pre ++ b) ≡ length pre + length b = length-append pre b in
      let ih = pass_back cs (pre ++ b) post r.1 able.1 in
      let l : length pre + length b + length t ≡ length pre + length (b ++ t) = simp length-append (omega arith) in
      rw (append_assoc b t post, item_back c pre (t ++ post) r.0 able.0, ← append_assoc pre b (t ++ post), ← q, ih, q, l) refl

-- ---- atoms and items have at least their smallest number of bytes

value_least : (v : AtomContent value) → 4 ≤ length (value_bytes v)
unfolding value_bytes
value_least none = simp length-be (omega arith)
value_least (some s) = simp (length-append, length-be) (omega arith)

pub atom_least_lem : (a : Atom) (c : AtomContent a) → atom_least a ≤ length (atom_bytes a c)
unfolding atom_bytes
atom_least_lem (unsigned w) c = simp length-be (omega arith)
atom_least_lem (signed w) c = simp length-be (omega arith)
atom_least_lem (one_of bs) c = omega arith
atom_least_lem text c = simp length-append (omega arith)
atom_least_lem value c = value_least c
atom_least_lem rest c = omega arith

pub each_least : {X : Type 0} {C : X → Type 0} (bytes : (x : X) → C x → List ℕ) (least : X → ℕ) → ((x : X) (c : C x) → least x ≤ length (bytes x c)) → (xs : List X) (c : Each C xs) → least_of_each least xs ≤ length (bytes_of_each bytes xs c)
unfolding least_of_each bytes_of_each
each_least bytes least h [] c = omega arith
each_least bytes least h (x ∷ xs) c = simp length-append (omega (arith, h x c.0, each_least bytes least h xs c.1))

pub item_least_lem : (i : Item) (c : ItemContent i) → item_least i ≤ length (item_bytes i c)
unfolding item_least item_bytes
item_least_lem i c = each_least atom_bytes atom_least atom_least_lem i.atoms c

pub items_least : (i : Item) (cs : List (ItemContent i)) → length cs * item_least i ≤ length (items_bytes i cs)
unfolding items_bytes
items_least i [] = omega arith
items_least i (c ∷ cs) = simp length-append (omega (arith, item_least_lem i c, items_least i cs))

-- ---- an item's bytes are bytes

be_bytes : (w n : ℕ) → Bytes (be w n)
unfolding be Bytes
be_bytes zero n = tt
be_bytes (suc w) n = bytes_append (be w (n / 256)) (n % 256 ∷ []) (be_bytes w (n / 256)) (omega arith, tt)

value_bytes_lem : (v : AtomContent value) → ValueInRange v → Bytes (value_bytes v)
unfolding value_bytes ValueInRange
value_bytes_lem none r = be_bytes 4 _
value_bytes_lem (some s) r = bytes_append (be 4 (length s)) s (be_bytes 4 (length s)) r.0

pub atom_bytes_lem : (a : Atom) (c : AtomContent a) → AtomInRange a c → Bytes (atom_bytes a c)
unfolding atom_bytes AtomInRange Bytes
atom_bytes_lem (unsigned w) c r = be_bytes w c
atom_bytes_lem (signed w) c r = be_bytes w _
atom_bytes_lem (one_of bs) c r = (r, tt)
atom_bytes_lem text c r = bytes_append c (0 ∷ []) r (omega arith, tt)
atom_bytes_lem value c r = value_bytes_lem c r
atom_bytes_lem rest c r = r

pub each_bytes : {X : Type 0} {C : X → Type 0} (bytes : (x : X) → C x → List ℕ) (InRange : (x : X) → C x → Type 0) → ((x : X) (c : C x) → InRange x c → Bytes (bytes x c)) → (xs : List X) (c : Each C xs) → HoldsEach InRange xs c → Bytes (bytes_of_each bytes xs c)
unfolding HoldsEach bytes_of_each Bytes
each_bytes bytes InRange h [] c r = tt
each_bytes bytes InRange h (x ∷ xs) c r = bytes_append (bytes x c.0) (bytes_of_each bytes xs c.1) (h x c.0 r.0) (each_bytes bytes InRange h xs c.1 r.1)

pub item_bytes_lem : (i : Item) (c : ItemContent i) → ItemInRange i c → Bytes (item_bytes i c)
unfolding item_bytes ItemInRange
item_bytes_lem i c r = each_bytes atom_bytes AtomInRange atom_bytes_lem i.atoms c r

-- ---- what was read is items

abbrev pub ItemWas : Rules → (i : Item) → List ℕ → ℕ → Each AtomSlot i.atoms → ℕ → Type 0
ItemWas rules i f p v q = AllWere atom_bytes atom_slot (read_atom rules) AtomInRange (atom_able rules) i.atoms f p v q

-- n items stand from p to q
pub record ItemsWere (rules : Rules) (i : Item) (f : List ℕ) (n p q : ℕ) : Type 0 where
  pub contents : List (ItemContent i)
  pub many : length contents ≡ n
  pub in_range : ItemsInRange i contents
  pub writable : items_able rules i contents ≡ true
  pub split : drop p f ≡ items_bytes i contents ++ drop q f
  pub next : q ≡ p + length (items_bytes i contents)
  pub within : q ≤ length f

module _ (rules : Rules) (i : Item) (sane : T (sane_item i)) (f : List ℕ) (b : Bytes f) where
  atoms_were : (xs : List Atom) → T (every in_item xs) → EachWas atom_bytes atom_slot (read_atom rules) AtomInRange (atom_able rules) f xs
  atoms_were [] t = tt
  atoms_were (a ∷ xs) t = (λ p q v l e. atom_was rules f b p a (in_item_sane a (left_holds (in_item a) (every in_item xs) t)) v q l e, atoms_were xs (right_holds (in_item a) (every in_item xs) t))

  pub item_was : (p q : ℕ) (v : Each AtomSlot i.atoms) → p ≤ length f → read_item rules i f p ≡ got v q → ItemWas rules i f p v q
  item_was p q v l e = each_was atom_bytes atom_slot (read_atom rules) AtomInRange (atom_able rules) f i.atoms p q v l (atoms_were i.atoms (left_holds (every in_item i.atoms) (leb 1 (item_least i)) sane)) e

  -- none, and one before others
  unfoldable pub no_items : (p : ℕ) → p ≤ length f → ItemsWere rules i f 0 p p
  unfolding items_bytes ItemsInRange items_able
  no_items p l = record { contents = []; many = refl; in_range = tt; writable = refl; split = refl; next = omega arith; within = l }

  unfoldable pub item_before : {n p a q : ℕ} {v : Each AtomSlot i.atoms} → ItemWas rules i f p v a → ItemsWere rules i f n a q → ItemsWere rules i f (suc n) p q
  unfolding items_bytes item_bytes ItemsInRange ItemInRange items_able item_able
  item_before h t =
      let bs = item_bytes i h.content in
      let lengths : length (bs ++ items_bytes i t.contents) ≡ length bs + length (items_bytes i t.contents) = length-append bs (items_bytes i t.contents) in
      record {
        contents = h.content ∷ t.contents;
        many = ap suc t.many;
        in_range = (h.in_range, t.in_range);
        writable = rw h.writable t.writable;
        split = h.split ∙ rw (t.split, append_assoc bs (items_bytes i t.contents) _) refl;
        next = omega (arith, h.next, t.next, lengths);
        within = t.within;
      }

  pass_by : (n p q : ℕ) → p ≤ length f → (r : Read (Each AtomSlot i.atoms)) → read_item rules i f p ≡ r → ((a : ℕ) → a ≤ length f → pass_items rules i n f a ≡ got tt q → ItemsWere rules i f n a q) → and_then r (λ s a. pass_items rules i n f a) ≡ got tt q → ItemsWere rules i f (suc n) p q
  pass_by n p q l (bad k x) r ih e = absurd (zero_one cc)
  pass_by n p q l (got v a) r ih e = let h = item_was p a v l r in item_before h (ih a h.within e)

  pub pass_was : (n p q : ℕ) → p ≤ length f → pass_items rules i n f p ≡ got tt q → ItemsWere rules i f n p q
  unfolding pass_items
  pass_was zero p q l e = let z : p ≡ q = cc in rw (← z) (no_items p l)
  pass_was (suc n) p q l e = pass_by n p q l (read_item rules i f p) refl (λ a m r. pass_was n a q m r) e
