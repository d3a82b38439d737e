-- What an encoder's lists of arguments mean, item by item: said without walking them together, as docs/FORMAT.md 9 has it.
use Rattle.std.specs.Prelude.{ℕ, zero, suc, ◌+◌, ◌/◌, ◌^◌, ◌<◌, List, [], ◌∷◌, ◌⊎◌, ◌≡◌, ℤ, pos, negsuc, length, take, drop}
use Rattle.std.proofs.Math.Option.{Option, some, none}
use Rattle.std.specs.Int.Signed.{mag}
use Rattle.protocol.specs.declared.data.FieldDescription.{FieldDescription}

-- item n of a list, if there is one
unfoldable pub nth : {A : Type 0} → List A → ℕ → Option A
nth [] n = none
nth (x ∷ xs) zero = some x
nth (x ∷ xs) (suc n) = nth xs n

-- that some item of a list is so
unfoldable pub Some : {A : Type 0} → (A → Type 0) → List A → Type 0
Some P [] = ⊥
Some P (x ∷ xs) = P x ⊎ Some P xs

-- that every item of a list is so
unfoldable pub All : {A : Type 0} → (A → Type 0) → List A → Type 0
All P [] = Unit {0}
All P (x ∷ xs) = P x × All P xs

-- ---- numbers of a type

abbrev pub Unsigned : ℕ → ℕ → Type 0
Unsigned width n = n < 256 ^ width

abbrev pub Signed : ℕ → ℤ → Type 0
Signed width z = mag z < 256 ^ width / 2

pub record TypedField (d : FieldDescription) : Type 0 where
  pub table : Signed 4 d.table_id
  pub column : Signed 2 d.column_id
  pub type : Unsigned 4 d.type_id
  pub size : Signed 2 d.type_size
  pub modifier : Signed 4 d.type_modifier
  pub format : Signed 2 d.format_code

-- ---- values: lengths, -1 for NULL, and the joined bytes

-- a length's bytes: NULL has none
abbrev pub size_of : ℤ → ℕ
size_of (pos n) = n
size_of (negsuc n) = 0

unfoldable pub total : {A : Type 0} → (A → ℕ) → List A → ℕ
total size [] = 0
total size (x ∷ xs) = size x + total size xs

abbrev pub itself : ℕ → ℕ
itself n = n

abbrev pub BelowNull : ℤ → Type 0
BelowNull z = (n : ℕ) × (z ≡ negsuc (suc n))

-- a value of a length in the joined bytes, after those of the earlier lengths
abbrev pub value_at : ℤ → ℕ → List ℕ → Option (List ℕ)
value_at (pos n) start joined = some (take n (drop start joined))
value_at (negsuc n) start joined = none

-- ---- names in a run of bytes

abbrev pub Outside : List ℕ → FieldDescription → Type 0
Outside run d = length run < d.name.start + d.name.len
