-- What a turn of a loop over lengths takes from the bytes that are left, and that nothing is left at the loop's end.
use Prim.Native.Nat.{ℕ, zero, suc, ◌+◌, ◌≤◌, ◌<◌}
use mathlib.Core.Bool.{true, false≢true}
use mathlib.Core.List.{List, [], ◌∷◌, ◌++◌, append_assoc}
use mathlib.Core.Option.{some, none}
use mathlib.Core.Path.{◌≡◌, refl, ◌∙◌, sym}
use native.Mathlib.Omega.{arith}
use borrow.Author.Tests.{leb-true}
use lib.Dec.{leb}
use lib.IntN.{ℤ, pos, negsuc}
use lib.ListN.{length, get_or, take, drop}
use Rattle.protocol.specs.Bytes.{be, bits_of}
use Rattle.protocol.specs.Encode.{values_given, texts_given, error_fields_given}
use Rattle.protocol.proofs.Basics.{and_left, and_right}
use Rattle.writers.specs.Given.{is_some, size_of}
use Rattle.writers.proofs.ErrorLaws.{errors_bytes}
use Rattle.writers.proofs.GivenLaws.{some_first}
use Rattle.writers.proofs.Laws.{drop_more, drop-end}
use Rattle.writers.proofs.TextLaws.{texts_bytes}
use Rattle.writers.proofs.ValueLaws.{values_bytes}

-- ---- strings

pub record TextTurn (ns rest : List ℕ) (i n : ℕ) : Type 0 where
  pub fits : n ≤ length rest
  pub more : is_some (texts_given (drop (i + 1) ns) (drop n rest)) ≡ true
  pub bytes : texts_bytes (drop i ns) rest ≡ (take n rest ++ 0 ∷ []) ++ texts_bytes (drop (i + 1) ns) (drop n rest)

pub text_turn : (ns rest : List ℕ) (i : ℕ) → i < length ns → is_some (texts_given (drop i ns) rest) ≡ true → TextTurn ns rest i (get_or ns i 0)
unfolding texts_given texts_bytes
text_turn ns rest i h is =
    let n = get_or ns i 0 in
    let f = sym (some_first (take n rest) (leb n (length rest)) (texts_given (drop (i + 1) ns) (drop n rest))) ∙ (rw (drop_more ns i 0 h) at is) in
    record { fits = leb-true _ _ (and_left _ _ f); more = and_right (leb n (length rest)) f; bytes = rw (drop_more ns i 0 h) refl }

pub text_end : (ns rest : List ℕ) (i : ℕ) → length ns ≤ i → is_some (texts_given (drop i ns) rest) ≡ true → (rest ≡ []) × (texts_bytes (drop i ns) rest ≡ [])
unfolding texts_given texts_bytes
text_end ns [] i h is = (refl, rw (drop-end ns i h) refl)
text_end ns (b ∷ bs) i h is = absurd (false≢true (rw (drop-end ns i h) at is))

-- ---- values

pub record ValueTurn (zs : List ℤ) (rest : List ℕ) (i n : ℕ) : Type 0 where
  pub fits : n ≤ length rest
  pub more : is_some (values_given (drop (i + 1) zs) (drop n rest)) ≡ true
  pub bytes : values_bytes (drop i zs) rest ≡ (be 4 (bits_of 4 (get_or zs i (pos 0))) ++ take n rest) ++ values_bytes (drop (i + 1) zs) (drop n rest)

value_fits : (z : ℤ) (zs : List ℤ) (rest : List ℕ) → is_some (values_given (z ∷ zs) rest) ≡ true
    → (size_of z ≤ length rest) × (is_some (values_given zs (drop (size_of z) rest)) ≡ true)
unfolding values_given
value_fits (pos n) zs rest is =
    let f = sym (some_first (some (take n rest), tt) (leb n (length rest)) (values_given zs (drop n rest))) ∙ is in
    (leb-true _ _ (and_left _ _ f), and_right (leb n (length rest)) f)
value_fits (negsuc zero) zs rest is = (omega arith, sym (some_first (none, tt) true (values_given zs rest)) ∙ is)
value_fits (negsuc (suc n)) zs rest is = absurd (false≢true is)

pub value_turn : (zs : List ℤ) (rest : List ℕ) (i : ℕ) → i < length zs → is_some (values_given (drop i zs) rest) ≡ true
    → ValueTurn zs rest i (size_of (get_or zs i (pos 0)))
unfolding values_bytes
value_turn zs rest i h is =
    let z = get_or zs i (pos 0) in
    let f = value_fits z (drop (i + 1) zs) rest (rw (drop_more zs i (pos 0) h) at is) in
    record { fits = f.0; more = f.1; bytes = rw (drop_more zs i (pos 0) h) (sym (append_assoc (be 4 (bits_of 4 z)) _ _)) }

pub value_end : (zs : List ℤ) (rest : List ℕ) (i : ℕ) → length zs ≤ i → is_some (values_given (drop i zs) rest) ≡ true → (rest ≡ []) × (values_bytes (drop i zs) rest ≡ [])
unfolding values_given values_bytes
value_end zs [] i h is = (refl, rw (drop-end zs i h) refl)
value_end zs (b ∷ bs) i h is = absurd (false≢true (rw (drop-end zs i h) at is))

-- ---- an error's fields

pub record ErrorTurn (cs ns rest : List ℕ) (i n : ℕ) : Type 0 where
  pub fits : n ≤ length rest
  pub more : is_some (error_fields_given (drop (i + 1) cs) (drop (i + 1) ns) (drop n rest)) ≡ true
  pub bytes : errors_bytes (drop i cs) (drop i ns) rest
      ≡ get_or cs i 0 ∷ [] ++ (take n rest ++ 0 ∷ []) ++ errors_bytes (drop (i + 1) cs) (drop (i + 1) ns) (drop n rest)

pub error_turn : (cs ns rest : List ℕ) (i : ℕ) → i < length cs → i < length ns → is_some (error_fields_given (drop i cs) (drop i ns) rest) ≡ true
    → ErrorTurn cs ns rest i (get_or ns i 0)
unfolding error_fields_given errors_bytes
error_turn cs ns rest i h k is =
    let c = get_or cs i 0 in
    let n = get_or ns i 0 in
    let f = sym (some_first (c, (take n rest, tt)) (leb n (length rest)) (error_fields_given (drop (i + 1) cs) (drop (i + 1) ns) (drop n rest))) ∙ (rw (drop_more cs i 0 h, drop_more ns i 0 k) at is) in
    record { fits = leb-true _ _ (and_left _ _ f); more = and_right (leb n (length rest)) f; bytes = rw (drop_more cs i 0 h, drop_more ns i 0 k) refl }

-- there are as many codes as lengths
pub error_end : (cs ns rest : List ℕ) (i : ℕ) → length cs ≡ length ns → length ns ≤ i → is_some (error_fields_given (drop i cs) (drop i ns) rest) ≡ true
    → (rest ≡ []) × (errors_bytes (drop i cs) (drop i ns) rest ≡ [])
unfolding error_fields_given errors_bytes
error_end cs ns [] i same h is = (refl, rw (drop-end cs i (omega arith)) refl)
error_end cs ns (b ∷ bs) i same h is = absurd (false≢true (rw (drop-end cs i (omega arith), drop-end ns i h) at is))
