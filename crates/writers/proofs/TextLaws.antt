-- Strings, one after the other: when lengths and bytes are some, and what is written of them; and names and values by turns.
use Prim.Native.Nat.{ℕ, suc, ◌+◌, ◌-◌, ◌≤◌, ◌<◌}
use mathlib.Core.Bool.{Bool, true, false, not, ◌&&◌, and-true, and-false, and_assoc, false≢true}
use mathlib.Core.List.{List, [], ◌∷◌, ◌++◌, append-nil, append_assoc}
use mathlib.Core.Option.{Option, some, none}
use mathlib.Core.Path.{◌≡◌, refl, ap, ◌∙◌, sym}
use native.Mathlib.Omega.{arith}
use borrow.Author.Tests.{leb-true, eq-eqb, ne_eqb, eqb-true}
use lib.Dec.{leb, eqb}
use lib.ListN.{length, get_or, take, drop, length-append, length-drop, take-append-drop}
use lib.Seq.{length-take-le, drop-drop, take_all}
use Rattle.protocol.specs.declared.Rules.{Rules}
use Rattle.protocol.specs.Bytes.{no_zero}
use Rattle.protocol.specs.Each.{able_each, bytes_of_each}
use Rattle.protocol.specs.Encode.{texts_given, by_turns, or_none, pairs_given}
use Rattle.protocol.specs.Fields.{ItemContent, able, bytes, atom_able, atom_bytes, item_able, item_bytes, items_able, items_bytes, zero_first, none_ends}
use Rattle.protocol.specs.Kinds.{pair, pairs}
use Rattle.protocol.proofs.Basics.{none-some, and_left, and_right}
use Rattle.writers.specs.Given.{is_some, named}
use Rattle.writers.proofs.GivenLaws.{first, some_first, spent}
use Rattle.writers.proofs.Laws.{drop_more, drop-end}

-- ---- when there are strings

next : (n : ℕ) (ns bs : List ℕ) → is_some (texts_given (n ∷ ns) bs) ≡ leb n (length bs) && is_some (texts_given ns (drop n bs))
unfolding texts_given
next n ns bs = some_first (take n bs) (leb n (length bs)) (texts_given ns (drop n bs))

-- at the length that the code reads; joined is passed up to j
module _ (ns bs : List ℕ) (i j : ℕ) (h : i < length ns) where
  pub text_next : is_some (texts_given (drop i ns) (drop j bs))
      ≡ leb (get_or ns i 0) (length bs - j) && is_some (texts_given (drop (i + 1) ns) (drop (j + get_or ns i 0) bs))
  text_next =
      rw (drop_more ns i 0 h, ← drop-drop (get_or ns i 0) j bs, ← length-drop j bs) (next (get_or ns i 0) (drop (i + 1) ns) (drop j bs))

  pub text_right : is_some (texts_given (drop i ns) (drop j bs)) ≡ true
      → (get_or ns i 0 ≤ length bs - j) × (is_some (texts_given (drop (i + 1) ns) (drop (j + get_or ns i 0) bs)) ≡ true)
  text_right is = let f = sym text_next ∙ is in (leb-true _ _ (and_left _ _ f), and_right (leb (get_or ns i 0) (length bs - j)) f)

pub text_end : (ns bs : List ℕ) (i j : ℕ) → length ns ≤ i → j ≤ length bs → is_some (texts_given (drop i ns) (drop j bs)) ≡ eqb j (length bs)
unfolding texts_given
text_end ns bs i j h k = rw (drop-end ns i h) (by (drop j bs) refl)
  where
    by : (rest : List ℕ) → drop j bs ≡ rest → is_some (texts_given [] rest) ≡ eqb j (length bs)
    by [] e = sym (eq-eqb j (length bs) (omega (arith, ap length e, length-drop j bs)))
    by (x ∷ xs) e = sym (ne_eqb j (length bs) (λ q. omega (arith, ap length e, length-drop j bs)))

-- where the code knows how many bytes are left
pub text_spent : (ns bs : List ℕ) (i left : ℕ) → length ns ≤ i → left ≤ length bs → is_some (texts_given (drop i ns) (drop (length bs - left) bs)) ≡ eqb left 0
text_spent ns bs i left h k = text_end ns bs i (length bs - left) h (omega arith) ∙ spent left (length bs) k

pub text_over : (ns bs : List ℕ) (i j : ℕ) → length ns ≤ i → j ≤ length bs → is_some (texts_given (drop i ns) (drop j bs)) ≡ true → j ≡ length bs
text_over ns bs i j h k is = eqb-true _ _ (sym (text_end ns bs i j h k) ∙ is)

-- ---- their bytes

unfoldable pub texts_bytes : List ℕ → List ℕ → List ℕ
texts_bytes [] bs = []
texts_bytes (n ∷ ns) bs = take n bs ++ 0 ∷ [] ++ texts_bytes ns (drop n bs)

-- the next string, in the words of the code
pub texts_more : (ns bs : List ℕ) (i j : ℕ) → i < length ns
    → texts_bytes (drop i ns) (drop j bs)
    ≡ (take ((j + get_or ns i 0) - j) (drop j bs) ++ 0 ∷ []) ++ texts_bytes (drop (i + 1) ns) (drop (j + get_or ns i 0) bs)
unfolding texts_bytes
texts_more ns bs i j h =
    let f : (j + get_or ns i 0) - j ≡ get_or ns i 0 = omega arith in
    rw (f, ← drop-drop (get_or ns i 0) j bs, drop_more ns i 0 h) refl

pub texts_none : (ns bs : List ℕ) (i : ℕ) → length ns ≤ i → texts_bytes (drop i ns) bs ≡ []
unfolding texts_bytes
texts_none ns bs i h = rw (drop-end ns i h) refl

zero_append : (xs ys : List ℕ) → no_zero (xs ++ ys) ≡ no_zero xs && no_zero ys
unfolding no_zero
zero_append [] ys = refl
zero_append (x ∷ xs) ys = by (not (eqb x 0)) (zero_append xs ys)
  where
    by : (t : Bool) → no_zero (xs ++ ys) ≡ no_zero xs && no_zero ys → t && no_zero (xs ++ ys) ≡ t && no_zero xs && no_zero ys
    by true e = e
    by false e = refl

pub zero_parts : (n : ℕ) (bs : List ℕ) → no_zero bs ≡ no_zero (take n bs) && no_zero (drop n bs)
zero_parts n bs = ap no_zero (sym (take-append-drop n bs)) ∙ zero_append (take n bs) (drop n bs)

-- ---- names and values, by the lengths

-- at the name that the code reads, the first of those that are left
pub named_more : (ns : List ℕ) → 2 ≤ length ns → named ns ≡ not (eqb (get_or ns 0 0) 0) && named (take (length ns - 2) (drop 2 ns))
unfolding named
named_more [] h = absurd (omega arith)
named_more (n ∷ []) h = absurd (omega arith)
named_more (n ∷ v ∷ ns) h =
    let e : suc (suc (length ns)) - 2 ≡ length ns = omega arith in
    rw (e, take_all (length ns) ns (omega arith)) refl

pub named_end : (ns : List ℕ) → length ns < 2 → named ns ≡ eqb (length ns) 0
unfolding named
named_end [] h = refl
named_end (n ∷ []) h = refl
named_end (n ∷ v ∷ ns) h = absurd (omega arith)

texts_many : (ns bs : List ℕ) (ts : List (List ℕ)) → texts_given ns bs ≡ some ts → length ts ≡ length ns
unfolding texts_given
texts_many [] [] ts e = let q : [] ≡ ts = cc in rw (← q) refl
texts_many [] (b ∷ bs) ts e = absurd (none-some e)
texts_many (n ∷ ns) bs ts e =
    let f = first (take n bs) (leb n (length bs)) (texts_given ns (drop n bs)) ts e in
    rw f.is (ap suc (texts_many ns (drop n bs) f.rest f.was))

-- where each name has a value, strings are pairs
some_turns : (ns : List ℕ) (ts : List (List ℕ)) → length ts ≡ length ns → named ns ≡ true → is_some (by_turns ts) ≡ true
unfolding named by_turns
some_turns [] [] e is = refl
some_turns [] (a ∷ ts) e is = absurd (omega (arith, e))
some_turns (n ∷ []) ts e is = absurd (false≢true is)
some_turns (n ∷ v ∷ ns) [] e is = absurd (omega (arith, e))
some_turns (n ∷ v ∷ ns) (a ∷ []) e is = absurd (omega (arith, e))
some_turns (n ∷ v ∷ ns) (a ∷ b ∷ ts) e is =
    some_first (a, (b, tt)) true (by_turns ts) ∙ some_turns ns ts (omega (arith, e)) (and_right (not (eqb n 0)) is)

-- so that the lengths and the names tell whether there are pairs that can be written
pub some_pairs : (ns bs : List ℕ) (t : Bool) → is_some (texts_given ns bs) && (t && named ns) ≡ is_some (pairs_given ns bs) && (t && named ns)
unfolding pairs_given
some_pairs ns bs t = by (texts_given ns bs) refl
  where
    with_names : (ts : List (List ℕ)) (s : Bool) → length ts ≡ length ns → named ns ≡ s → t && named ns ≡ is_some (by_turns ts) && (t && named ns)
    with_names ts true e is = rw (some_turns ns ts e is) refl
    with_names ts false e is = rw (is, and-false t, and-false (is_some (by_turns ts))) refl

    by : (o : Option (List (List ℕ))) → texts_given ns bs ≡ o → is_some o && (t && named ns) ≡ is_some (or_none by_turns o) && (t && named ns)
    by none e = refl
    by (some ts) e = with_names ts (named ns) (texts_many ns bs ts e) refl

-- ---- what the pairs are that are given

-- a string that has no zero byte begins with zero, with its own zero byte behind it, where it is empty
zero_first_lem : (s ys : List ℕ) → no_zero s ≡ true → zero_first (s ++ 0 ∷ [] ++ ys) ≡ eqb (length s) 0
unfolding zero_first no_zero
zero_first_lem [] ys e = refl
zero_first_lem (b ∷ s) ys e = by (eqb b 0) (and_left (not (eqb b 0)) (no_zero s) e)
  where
    by : (t : Bool) → not t ≡ true → t ≡ eqb (suc (length s)) 0
    by true e = absurd (false≢true e)
    by false e = sym (ne_eqb (suc (length s)) 0 (λ q. omega (arith, q)))

pub record Pairs (ns bs : List ℕ) (ps : List (ItemContent pair)) : Type 0 where
  pub written : items_bytes pair ps ≡ texts_bytes ns bs
  pub size : length (texts_bytes ns bs) ≡ length ns + length bs
  pub strings : (rules : Rules) → items_able rules pair ps ≡ no_zero bs
  pub names : no_zero bs ≡ true → none_ends pair ps ≡ named ns

pairs_by : (ns bs : List ℕ) (ts : List (List ℕ)) (ps : List (ItemContent pair)) → texts_given ns bs ≡ some ts → by_turns ts ≡ some ps → Pairs ns bs ps
unfolding texts_given by_turns texts_bytes items_bytes item_bytes bytes_of_each atom_bytes items_able item_able able_each atom_able no_zero none_ends named
pairs_by [] [] ts ps e f =
    let q : [] ≡ ts = cc in
    let f' : some [] ≡ some ps = rw (← q) at f in
    let r : [] ≡ ps = cc in
    record { written = rw (← r) refl; size = refl; strings = λ rules. rw (← r) refl; names = λ _. rw (← r) refl }
pairs_by [] (b ∷ bs) ts ps e f = absurd (none-some e)
pairs_by (n ∷ []) bs ts ps e f = by ts (texts_many (n ∷ []) bs ts e) f
  where
    by : (ts : List (List ℕ)) → length ts ≡ 1 → by_turns ts ≡ some ps → Pairs (n ∷ []) bs ps
    by [] m f = absurd (omega (arith, m))
    by (a ∷ []) m f = absurd (none-some f)
    by (a ∷ b ∷ ts) m f = absurd (omega (arith, m))
pairs_by (n ∷ v ∷ ns) bs ts ps e f =
    let rest = drop n bs in
    let a = first (take n bs) (leb n (length bs)) (texts_given (v ∷ ns) rest) ts e in
    let b = first (take v rest) (leb v (length rest)) (texts_given ns (drop v rest)) a.rest a.was in
    let c = first (take n bs, (take v rest, tt)) true (by_turns b.rest) ps (rw (a.is, b.is) at f) in
    let p = pairs_by ns (drop v rest) b.rest c.rest b.was c.was in
    let la : length (take n bs) ≡ n = length-take-le n bs (leb-true _ _ a.passed) in
    let lb : length (take v rest) ≡ v = length-take-le v rest (leb-true _ _ b.passed) in
    let fits : n ≤ length bs = leb-true _ _ a.passed in
    let fits' : v ≤ length rest = leb-true _ _ b.passed in
    record {
      written = rw (c.is, append-nil (take v rest ++ 0 ∷ []), p.written) (append_assoc (take n bs ++ 0 ∷ []) (take v rest ++ 0 ∷ []) _);
      size = simp (length-append, la, lb) (omega (arith, p.size, length-drop n bs, length-drop v rest));
      strings = λ rules.
          rw (c.is, p.strings rules, and-true (no_zero (take v rest)), zero_parts n bs, zero_parts v rest)
          (and_assoc (no_zero (take n bs)) (no_zero (take v rest)) (no_zero (drop v rest)));
      names = λ z.
          let z₁ : no_zero (take n bs) && no_zero rest ≡ true = sym (zero_parts n bs) ∙ z in
          let z₂ : no_zero (take v rest) && no_zero (drop v rest) ≡ true = sym (zero_parts v rest) ∙ and_right (no_zero (take n bs)) z₁ in
          rw (c.is, p.names (and_right (no_zero (take v rest)) z₂), zero_first_lem (take n bs) _ (and_left (no_zero (take n bs)) (no_zero rest) z₁), la) refl;
    }

pub pairs_are : (ns bs : List ℕ) (ps : List (ItemContent pair)) → pairs_given ns bs ≡ some ps → Pairs ns bs ps
unfolding pairs_given
pairs_are ns bs ps e = by (texts_given ns bs) refl e
  where
    by : (o : Option (List (List ℕ))) → texts_given ns bs ≡ o → or_none by_turns o ≡ some ps → Pairs ns bs ps
    by none is e = absurd (none-some e)
    by (some ts) is e = pairs_by ns bs ts ps is e

-- ---- the field

module _ (ns bs : List ℕ) (ps : List (ItemContent pair)) (e : pairs_given ns bs ≡ some ps) where
  pub able-pairs : (rules : Rules) → able rules pairs ps ≡ no_zero bs && named ns
  unfolding able
  able-pairs rules = let v = pairs_are ns bs ps e in rw (v.strings rules) (by (no_zero bs) v.names)
    where
      by : (t : Bool) → (t ≡ true → none_ends pair ps ≡ named ns) → t && none_ends pair ps ≡ t && named ns
      by true h = h refl
      by false h = refl

  pub length_pairs : length (bytes pairs ps) ≡ length ns + length bs + 1
  unfolding bytes
  length_pairs = let v = pairs_are ns bs ps e in rw v.written (omega (arith, v.size, length-append (texts_bytes ns bs) (0 ∷ [])))
