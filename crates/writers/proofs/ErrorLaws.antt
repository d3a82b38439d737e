-- An error's fields, one after the other: when codes, lengths and bytes are some, and what is written of them.
use Prim.Native.Nat.{ℕ, suc, ◌+◌, ◌*◌, ◌-◌, ◌%◌, ◌≤◌, ◌<◌}
use mathlib.Core.Bool.{Bool, true, false, ◌&&◌, and-true, and-false, true≢false}
use mathlib.Core.List.{List, [], ◌∷◌, ◌++◌, append-nil}
use mathlib.Core.Option.{some}
use mathlib.Core.Path.{◌≡◌, refl, ap, ◌∙◌, sym}
use native.Mathlib.Omega.{arith}
use borrow.Author.Tests.{leb-true, eqb-true, eqb-false}
use lib.Dec.{leb, eqb}
use lib.ListN.{length, get_or, take, drop, length-append, length-drop}
use lib.Seq.{length-take-le, drop-drop}
use Rattle.protocol.specs.declared.Rules.{Rules}
use Rattle.protocol.specs.Bytes.{no_zero, be}
use Rattle.protocol.specs.Each.{able_each, bytes_of_each}
use Rattle.protocol.specs.Encode.{error_fields_given, texts_given}
use Rattle.protocol.specs.Fields.{ItemContent, able, bytes, atom_able, atom_bytes, item_able, item_bytes, items_able, items_bytes, zero_first, none_ends}
use Rattle.protocol.specs.Kinds.{error_field, error_fields}
use Rattle.protocol.proofs.Basics.{none-some}
use Rattle.writers.specs.Given.{is_some}
use Rattle.writers.proofs.GivenLaws.{first, some_first}
use Rattle.writers.proofs.Laws.{drop_more, drop-end}
use Rattle.writers.proofs.TextLaws.{zero_parts}

-- ---- when there are fields

next : (c n : ℕ) (cs ns bs : List ℕ) → is_some (error_fields_given (c ∷ cs) (n ∷ ns) bs) ≡ leb n (length bs) && is_some (error_fields_given cs ns (drop n bs))
unfolding error_fields_given
next c n cs ns bs = some_first (c, (take n bs, tt)) (leb n (length bs)) (error_fields_given cs ns (drop n bs))

pub errors_differ : (cs ns bs : List ℕ) → (length cs ≡ length ns → ⊥) → is_some (error_fields_given cs ns bs) ≡ false
unfolding error_fields_given
errors_differ [] [] bs h = absurd (h refl)
errors_differ [] (n ∷ ns) bs h = refl
errors_differ (c ∷ cs) [] bs h = refl
errors_differ (c ∷ cs) (n ∷ ns) bs h =
    next c n cs ns bs ∙ ap (λ (t : Bool). leb n (length bs) && t) (errors_differ cs ns (drop n bs) (λ e. h (ap suc e))) ∙ and-false (leb n (length bs))

pub errors_many : (cs ns bs : List ℕ) → is_some (error_fields_given cs ns bs) ≡ true → length cs ≡ length ns
errors_many cs ns bs e = by (eqb (length cs) (length ns)) refl
  where
    by : (t : Bool) → eqb (length cs) (length ns) ≡ t → length cs ≡ length ns
    by true q = eqb-true (length cs) (length ns) q
    by false q = absurd (true≢false (sym e ∙ errors_differ cs ns bs (eqb-false (length cs) (length ns) q)))

-- where there are as many codes as lengths, the lengths tell
pub errors_same : (cs ns bs : List ℕ) → length cs ≡ length ns → is_some (error_fields_given cs ns bs) ≡ is_some (texts_given ns bs)
unfolding error_fields_given texts_given
errors_same [] [] [] e = refl
errors_same [] [] (b ∷ bs) e = refl
errors_same [] (n ∷ ns) bs e = absurd (omega (arith, e))
errors_same (c ∷ cs) [] bs e = absurd (omega (arith, e))
errors_same (c ∷ cs) (n ∷ ns) bs e =
    next c n cs ns bs ∙ ap (λ (t : Bool). leb n (length bs) && t) (errors_same cs ns (drop n bs) (omega (arith, e)))
    ∙ sym (some_first (take n bs) (leb n (length bs)) (texts_given ns (drop n bs)))

-- ---- their bytes

unfoldable pub errors_bytes : List ℕ → List ℕ → List ℕ → List ℕ
errors_bytes [] ns bs = []
errors_bytes (c ∷ cs) [] bs = []
errors_bytes (c ∷ cs) (n ∷ ns) bs = c ∷ (take n bs ++ 0 ∷ [] ++ errors_bytes cs ns (drop n bs))

-- the next field, in the words of the code
pub errors_more : (cs ns bs : List ℕ) (i j : ℕ) → i < length ns → length cs ≡ length ns
    → errors_bytes (drop i cs) (drop i ns) (drop j bs)
    ≡ get_or cs i 0 ∷ [] ++ (take ((j + get_or ns i 0) - j) (drop j bs) ++ 0 ∷ []) ++ errors_bytes (drop (i + 1) cs) (drop (i + 1) ns) (drop (j + get_or ns i 0) bs)
unfolding errors_bytes
errors_more cs ns bs i j h same =
    let f : (j + get_or ns i 0) - j ≡ get_or ns i 0 = omega arith in
    rw (f, ← drop-drop (get_or ns i 0) j bs, drop_more cs i 0 (omega arith), drop_more ns i 0 h) refl

pub errors_none : (cs ns bs : List ℕ) (i : ℕ) → length ns ≤ i → length cs ≡ length ns → errors_bytes (drop i cs) (drop i ns) bs ≡ []
unfolding errors_bytes
errors_none cs ns bs i h same = rw (drop-end cs i (omega arith)) refl

-- what the fields are that are given
pub record Fields (cs ns bs : List ℕ) (fs : List (ItemContent error_field)) : Type 0 where
  pub written : items_bytes error_field fs ≡ errors_bytes cs ns bs
  pub size : length (errors_bytes cs ns bs) ≡ 2 * length cs + length bs
  pub codes : none_ends error_field fs ≡ no_zero cs
  pub strings : (rules : Rules) → items_able rules error_field fs ≡ no_zero bs

pub errors_are : (cs ns bs : List ℕ) (fs : List (ItemContent error_field)) → ((i : ℕ) → get_or cs i 0 < 256) → error_fields_given cs ns bs ≡ some fs → Fields cs ns bs fs
unfolding error_fields_given errors_bytes items_bytes item_bytes bytes_of_each atom_bytes be zero_first none_ends no_zero items_able item_able able_each atom_able
errors_are [] [] [] fs small e =
    let q : [] ≡ fs = cc in record { written = rw (← q) refl; size = refl; codes = rw (← q) refl; strings = λ rules. rw (← q) refl }
errors_are [] [] (b ∷ bs) fs small e = absurd (none-some e)
errors_are [] (n ∷ ns) bs fs small e = absurd (none-some e)
errors_are (c ∷ cs) [] bs fs small e = absurd (none-some e)
errors_are (c ∷ cs) (n ∷ ns) bs fs small e =
    let f = first (c, (take n bs, tt)) (leb n (length bs)) (error_fields_given cs ns (drop n bs)) fs e in
    let v = errors_are cs ns (drop n bs) f.rest (λ i. small (suc i)) f.was in
    let m : n ≤ length bs = leb-true _ _ f.passed in
    let l : length (take n bs) ≡ n = length-take-le n bs m in
    let byte : c % 256 ≡ c = let s : c < 256 = small 0 in omega arith in
    record {
      written = rw (f.is, byte, append-nil (take n bs ++ 0 ∷ []), v.written) refl;
      size = simp (length-append, l) (omega (arith, v.size, length-drop n bs));
      codes = rw (f.is, byte, v.codes) refl;
      strings = λ rules. rw (f.is, v.strings rules, and-true (no_zero (take n bs))) (sym (zero_parts n bs));
    }

-- ---- the field

module _ (cs ns bs : List ℕ) (fs : List (ItemContent error_field)) (small : (i : ℕ) → get_or cs i 0 < 256) (e : error_fields_given cs ns bs ≡ some fs) where
  pub able_errors : (rules : Rules) → able rules error_fields fs ≡ no_zero bs && no_zero cs
  unfolding able
  able_errors rules = let v = errors_are cs ns bs fs small e in rw (v.strings rules, v.codes) refl

  pub length_errors : length (bytes error_fields fs) ≡ 2 * length cs + length bs + 1
  unfolding bytes
  length_errors = let v = errors_are cs ns bs fs small e in rw v.written (omega (arith, v.size, length-append (errors_bytes cs ns bs) (0 ∷ [])))
