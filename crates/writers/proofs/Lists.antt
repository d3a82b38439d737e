-- Fields: how long their bytes are, whether they can be written, and a list's bytes at each turn of a loop.
use Prim.Native.Nat.{ℕ, ◌+◌, ◌*◌}
use mathlib.Core.Bool.{true, and-true}
use mathlib.Core.List.{List, [], ◌∷◌, append-nil}
use mathlib.Core.Path.{◌≡◌, refl}
use native.Mathlib.Omega.{arith}
use lib.Dec.{leb}
use lib.IntN.{ℤ}
use lib.ListN.{length, length-append}
use Rattle.protocol.specs.declared.Rules.{Rules}
use Rattle.protocol.specs.Bytes.{no_zero, is_one_of, be, bits_of}
use Rattle.protocol.specs.Each.{bytes_of_each, able_each}
use Rattle.protocol.specs.Encode.{items}
use Rattle.protocol.specs.Fields.{Count, most, signed, one_of, rest, one, able, bytes, atom_bytes, atom_able, item_bytes, item_able, items_bytes, items_able}
use Rattle.protocol.specs.Kinds.{string, oid, format, oids, formats}
use Rattle.protocol.proofs.Basics.{length-be}
use Rattle.writers.specs.Writing.{joined}

pub length-items : {A : Type 0} (xs : List A) → length (items xs) ≡ length xs
length-items [] = refl
length-items (x ∷ xs) = omega (arith, length-items xs)

-- ---- numbers of four bytes

pub words_are : (xs : List ℕ) → items_bytes oid (items xs) ≡ joined (be 4) xs
unfolding items_bytes item_bytes bytes_of_each atom_bytes
words_are [] = refl
words_are (x ∷ xs) = rw (append-nil (be 4 x), words_are xs) refl

pub length_words : (xs : List ℕ) → length (items_bytes oid (items xs)) ≡ 4 * length xs
unfolding items_bytes item_bytes bytes_of_each atom_bytes be
length_words [] = refl
length_words (x ∷ xs) = omega (arith, length_words xs)

pub able_words : (rules : Rules) (xs : List ℕ) → items_able rules oid (items xs) ≡ true
unfolding items_able item_able able_each atom_able
able_words rules [] = refl
able_words rules (x ∷ xs) = able_words rules xs

-- ---- signed numbers of two bytes

pub halves_are : (zs : List ℤ) → items_bytes format (items zs) ≡ joined (λ z. be 2 (bits_of 2 z)) zs
unfolding items_bytes item_bytes bytes_of_each atom_bytes
halves_are [] = refl
halves_are (z ∷ zs) = rw (append-nil (be 2 (bits_of 2 z)), halves_are zs) refl

pub length_halves : (zs : List ℤ) → length (items_bytes format (items zs)) ≡ 2 * length zs
unfolding items_bytes item_bytes bytes_of_each atom_bytes be
length_halves [] = refl
length_halves (z ∷ zs) = omega (arith, length_halves zs)

pub able_halves : (rules : Rules) (zs : List ℤ) → items_able rules format (items zs) ≡ true
unfolding items_able item_able able_each atom_able
able_halves rules [] = refl
able_halves rules (z ∷ zs) = able_halves rules zs

-- ---- fields

pub able_text : (rules : Rules) (s : List ℕ) → able rules string s ≡ no_zero s
unfolding able atom_able
able_text rules s = refl

pub length_text : (s : List ℕ) → length (bytes string s) ≡ length s + 1
unfolding bytes atom_bytes
length_text s = length-append s (0 ∷ [])

pub able-signed : (rules : Rules) (w : ℕ) (z : ℤ) → able rules (one (signed w)) z ≡ true
unfolding able atom_able
able-signed rules w z = refl

pub length-signed : (w : ℕ) (z : ℤ) → length (bytes (one (signed w)) z) ≡ w
unfolding bytes atom_bytes
length-signed w z = length-be w (bits_of w z)

pub able_byte : (rules : Rules) (bs : List ℕ) (b : ℕ) → able rules (one (one_of bs)) b ≡ is_one_of b bs
unfolding able atom_able
able_byte rules bs b = refl

pub length_byte : (bs : List ℕ) (b : ℕ) → length (bytes (one (one_of bs)) b) ≡ 1
unfolding bytes atom_bytes
length_byte bs b = refl

pub able-rest : (rules : Rules) (s : List ℕ) → able rules (one rest) s ≡ true
unfolding able atom_able
able-rest rules s = refl

pub length_rest : (s : List ℕ) → length (bytes (one rest) s) ≡ length s
unfolding bytes atom_bytes
length_rest s = refl

pub able-oids : (rules : Rules) (k : Count) (xs : List ℕ) → able rules (oids k) (items xs) ≡ leb (length xs) (most k)
unfolding able
able-oids rules k xs = rw (length-items xs, able_words rules xs) (and-true (leb (length xs) (most k)))

pub length-oids : (k : Count) (xs : List ℕ) → length (bytes (oids k) (items xs)) ≡ 2 + 4 * length xs
unfolding bytes be
length-oids k xs = omega (arith, length_words xs)

pub able-formats : (rules : Rules) (k : Count) (zs : List ℤ) → able rules (formats k) (items zs) ≡ leb (length zs) (most k)
unfolding able
able-formats rules k zs = rw (length-items zs, able_halves rules zs) (and-true (leb (length zs) (most k)))

pub length-formats : (k : Count) (zs : List ℤ) → length (bytes (formats k) (items zs)) ≡ 2 + 2 * length zs
unfolding bytes be
length-formats k zs = omega (arith, length_halves zs)
