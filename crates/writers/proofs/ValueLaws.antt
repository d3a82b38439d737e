-- Values, one after the other: when lengths and bytes are some, and what is written of them.
use Prim.Native.Nat.{ℕ, zero, suc, ◌+◌, ◌*◌, ◌-◌, ◌≤◌, ◌<◌, ◌^◌}
use mathlib.Core.Bool.{Bool, true, false, ◌&&◌, and-true, true≢false, false≢true}
use mathlib.Core.List.{List, [], ◌∷◌, ◌++◌, append-nil, append_assoc}
use mathlib.Core.Option.{some, none}
use mathlib.Core.Path.{◌≡◌, refl, ap, ◌∙◌, sym}
use native.Mathlib.Omega.{arith}
use borrow.Author.Tests.{ltb-false, leb-true, le-leb, eq-eqb, ne_eqb, eqb-true}
use lib.Dec.{leb, eqb}
use lib.IntN.{ℤ, pos, negsuc}
use lib.ListN.{length, get_or, take, drop, length-append, length-drop}
use lib.Seq.{length-take-le, drop-drop}
use lib.Signed.{lt_z, mag}
use mir.Syntax.{w32}
use mir.Val.{hbits, to_z, of_z}
use Rattle.protocol.specs.declared.Rules.{Rules}
use Rattle.protocol.specs.Bytes.{be, bits_of}
use Rattle.protocol.specs.Each.{able_each, bytes_of_each}
use Rattle.protocol.specs.Encode.{values_given}
use Rattle.protocol.specs.Fields.{ItemContent, Count, most, able, bytes, atom_able, atom_bytes, value_bytes, item_able, item_bytes, items_able, items_bytes}
use Rattle.protocol.specs.Kinds.{nullable, values}
use Rattle.protocol.proofs.Basics.{none-some, and_left, and_right, length-be, back}
use Rattle.writers.specs.Given.{is_some, size_of}
use Rattle.writers.proofs.GivenLaws.{first, some_first, spent}
use Rattle.writers.proofs.Laws.{drop_more, drop-end}

-- ---- when there are values

below : (z : ℤ) (ls : List ℤ) (bs : List ℕ) → lt_z z (negsuc 0) ≡ true → is_some (values_given (z ∷ ls) bs) ≡ false
unfolding values_given
below (pos n) ls bs e = absurd (false≢true e)
below (negsuc zero) ls bs e = absurd (false≢true e)
below (negsuc (suc n)) ls bs e = refl

next : (z : ℤ) (ls : List ℤ) (bs : List ℕ) → lt_z z (negsuc 0) ≡ false
    → is_some (values_given (z ∷ ls) bs) ≡ leb (size_of z) (length bs) && is_some (values_given ls (drop (size_of z) bs))
unfolding values_given
next (pos n) ls bs e = some_first (some (take n bs), tt) (leb n (length bs)) (values_given ls (drop n bs))
next (negsuc zero) ls bs e = rw (le-leb 0 (length bs) (omega arith)) (some_first (none, tt) true (values_given ls bs))
next (negsuc (suc n)) ls bs e = let h : suc n ≤ 0 = ltb-false _ _ e in absurd (omega arith)

right : (z : ℤ) (ls : List ℤ) (bs : List ℕ) → is_some (values_given (z ∷ ls) bs) ≡ true
    → (size_of z ≤ length bs) × (is_some (values_given ls (drop (size_of z) bs)) ≡ true)
right z ls bs e = by (lt_z z (negsuc 0)) refl
  where
    by : (t : Bool) → lt_z z (negsuc 0) ≡ t → (size_of z ≤ length bs) × (is_some (values_given ls (drop (size_of z) bs)) ≡ true)
    by true low = absurd (true≢false (sym e ∙ below z ls bs low))
    by false low = let f = sym (next z ls bs low) ∙ e in (leb-true _ _ (and_left (leb (size_of z) (length bs)) (is_some (values_given ls (drop (size_of z) bs))) f), and_right (leb (size_of z) (length bs)) f)

-- at a length that the code reads: small is what it knows of it; joined is passed up to j, and k is the size of the length at i
module _ (zs : List ℤ) (bs : List ℕ) (i j : ℕ) (h : i < length zs) (small : mag (get_or zs i (pos 0)) < 2 ^ hbits w32) where
  same : to_z w32 (of_z w32 (get_or zs i (pos 0))) ≡ get_or zs i (pos 0)
  same = back w32 (get_or zs i (pos 0)) small

  pub value_below : lt_z (to_z w32 (of_z w32 (get_or zs i (pos 0)))) (negsuc 0) ≡ true → is_some (values_given (drop i zs) (drop j bs)) ≡ false
  value_below low = rw (drop_more zs i (pos 0) h) (below (get_or zs i (pos 0)) (drop (i + 1) zs) (drop j bs) (rw same at low))

  pub value_next : {k : ℕ} → k ≡ size_of (to_z w32 (of_z w32 (get_or zs i (pos 0)))) → lt_z (to_z w32 (of_z w32 (get_or zs i (pos 0)))) (negsuc 0) ≡ false
      → is_some (values_given (drop i zs) (drop j bs)) ≡ leb k (length bs - j) && is_some (values_given (drop (i + 1) zs) (drop (j + k) bs))
  value_next {k} e low =
      let g : k ≡ size_of (get_or zs i (pos 0)) = rw same at e in
      rw (drop_more zs i (pos 0) h, ← drop-drop k j bs, ← length-drop j bs, g) (next (get_or zs i (pos 0)) (drop (i + 1) zs) (drop j bs) (rw same at low))

  pub value_right : {k : ℕ} → k ≡ size_of (to_z w32 (of_z w32 (get_or zs i (pos 0)))) → is_some (values_given (drop i zs) (drop j bs)) ≡ true
      → (k ≤ length bs - j) × (is_some (values_given (drop (i + 1) zs) (drop (j + k) bs)) ≡ true)
  value_right {k} e is =
      let g : k ≡ size_of (get_or zs i (pos 0)) = rw same at e in
      let r = right (get_or zs i (pos 0)) (drop (i + 1) zs) (drop j bs) (rw (drop_more zs i (pos 0) h) at is) in
      rw (← drop-drop k j bs, ← length-drop j bs, g) r

pub value_end : (zs : List ℤ) (bs : List ℕ) (i j : ℕ) → length zs ≤ i → j ≤ length bs → is_some (values_given (drop i zs) (drop j bs)) ≡ eqb j (length bs)
unfolding values_given
value_end zs bs i j h k = rw (drop-end zs i h) (by (drop j bs) refl)
  where
    by : (rest : List ℕ) → drop j bs ≡ rest → is_some (values_given [] rest) ≡ eqb j (length bs)
    by [] e = sym (eq-eqb j (length bs) (omega (arith, ap length e, length-drop j bs)))
    by (x ∷ xs) e = sym (ne_eqb j (length bs) (λ q. omega (arith, ap length e, length-drop j bs)))

-- where the code knows how many bytes are left
pub value_spent : (zs : List ℤ) (bs : List ℕ) (i left : ℕ) → length zs ≤ i → left ≤ length bs → is_some (values_given (drop i zs) (drop (length bs - left) bs)) ≡ eqb left 0
value_spent zs bs i left h k = value_end zs bs i (length bs - left) h (omega arith) ∙ spent left (length bs) k

pub value_over : (zs : List ℤ) (bs : List ℕ) (i j : ℕ) → length zs ≤ i → j ≤ length bs → is_some (values_given (drop i zs) (drop j bs)) ≡ true → j ≡ length bs
value_over zs bs i j h k is = eqb-true _ _ (sym (value_end zs bs i j h k) ∙ is)

-- ---- their bytes

unfoldable pub values_bytes : List ℤ → List ℕ → List ℕ
values_bytes [] bs = []
values_bytes (z ∷ zs) bs = be 4 (bits_of 4 z) ++ (take (size_of z) bs ++ values_bytes zs (drop (size_of z) bs))

-- the next value, in the words of the code: b is the bits of the length at i
pub values_more : (zs : List ℤ) (bs : List ℕ) (i j : ℕ) {b k : ℕ} → i < length zs → mag (get_or zs i (pos 0)) < 2 ^ hbits w32
    → b ≡ bits_of 4 (to_z w32 (of_z w32 (get_or zs i (pos 0)))) → k ≡ size_of (to_z w32 (of_z w32 (get_or zs i (pos 0))))
    → values_bytes (drop i zs) (drop j bs) ≡ be 4 b ++ take ((j + k) - j) (drop j bs) ++ values_bytes (drop (i + 1) zs) (drop (j + k) bs)
unfolding values_bytes
values_more zs bs i j {b} {k} h small eb ek =
    let same = back w32 (get_or zs i (pos 0)) small in
    let f : (j + k) - j ≡ k = omega arith in
    rw (f, ← drop-drop k j bs, drop_more zs i (pos 0) h, eb, ek, same)
    (sym (append_assoc (be 4 (bits_of 4 (get_or zs i (pos 0)))) _ _))

-- what the values are that are given
pub record Values (zs : List ℤ) (bs : List ℕ) (vs : List (ItemContent nullable)) : Type 0 where
  pub many : length vs ≡ length zs
  pub written : items_bytes nullable vs ≡ values_bytes zs bs
  pub size : length (values_bytes zs bs) ≡ 4 * length zs + length bs

pub values_are : (zs : List ℤ) (bs : List ℕ) (vs : List (ItemContent nullable)) → values_given zs bs ≡ some vs → Values zs bs vs
unfolding values_given values_bytes items_bytes item_bytes bytes_of_each atom_bytes value_bytes bits_of
values_are [] [] vs e = let q : [] ≡ vs = cc in record { many = rw (← q) refl; written = rw (← q) refl; size = refl }
values_are [] (b ∷ bs) vs e = absurd (none-some e)
values_are (pos n ∷ zs) bs vs e =
    let f = first (some (take n bs), tt) (leb n (length bs)) (values_given zs (drop n bs)) vs e in
    let v = values_are zs (drop n bs) f.rest f.was in
    let m : n ≤ length bs = leb-true _ _ f.passed in
    let l : length (take n bs) ≡ n = length-take-le n bs m in
    record {
      many = rw f.is (ap suc v.many);
      written = rw (f.is, l, append-nil (be 4 n ++ take n bs), v.written) (append_assoc (be 4 n) (take n bs) _);
      size = simp (length-append, length-be 4, l) (omega (arith, v.size, length-drop n bs));
    }
values_are (negsuc zero ∷ zs) bs vs e =
    let f = first (none, tt) true (values_given zs bs) vs e in
    let v = values_are zs bs f.rest f.was in
    record {
      many = rw f.is (ap suc v.many);
      written = rw (f.is, v.written, append-nil (be 4 (bits_of 4 (negsuc 0)))) refl;
      size = simp (length-append, length-be 4) (omega (arith, v.size));
    }
values_are (negsuc (suc n) ∷ zs) bs vs e = absurd (none-some e)

-- ---- the field

able_nullables : (rules : Rules) (vs : List (ItemContent nullable)) → items_able rules nullable vs ≡ true
unfolding items_able item_able able_each atom_able
able_nullables rules [] = refl
able_nullables rules (v ∷ vs) = able_nullables rules vs

pub able-values : (rules : Rules) (k : Count) (zs : List ℤ) (bs : List ℕ) (vs : List (ItemContent nullable)) → values_given zs bs ≡ some vs
    → able rules (values k) vs ≡ leb (length zs) (most k)
unfolding able
able-values rules k zs bs vs e = rw ((values_are zs bs vs e).many, able_nullables rules vs) (and-true (leb (length zs) (most k)))

pub length-values : (k : Count) (zs : List ℤ) (bs : List ℕ) (vs : List (ItemContent nullable)) → values_given zs bs ≡ some vs
    → length (bytes (values k) vs) ≡ 2 + (4 * length zs + length bs)
unfolding bytes be
length-values k zs bs vs e = let v = values_are zs bs vs e in rw v.written (omega (arith, v.size))
