-- The faults of a body, 5 to 8 (docs/FORMAT.md 5), in words that do not mention reading. `g` is what stands from a place to the frame's
-- end. A fault in a list of things has before it the bytes of right contents of all that comes before, and its place is where those end.
use Rattle.std.specs.Prelude.{ℕ, suc, ◌+◌, ◌*◌, ◌<◌, ◌≤◌, true, false, List, [], ◌∷◌, ◌++◌, ◌⊎◌, ◌≡◌, pos, negsuc, length, drop}
use Rattle.protocol.specs.declared.Rules.{Rules}
use Rattle.protocol.specs.Bytes.{no_zero, is_one_of, number_at, signed_of}
use Rattle.protocol.specs.Fields.{Atom, unsigned, signed, one_of, text, value, rest, AtomContent, AtomInRange, atom_able, atom_bytes, Item, ItemContent, ItemsInRange, items_able, items_bytes, none_ends, item_least, Count, count_of, Field, one, counted, ended, Content, InRange, able, bytes}
use Rattle.protocol.specs.Kinds.{Envelope, typed, untyped, bare, Kind, IsIn}
use Rattle.protocol.specs.Refusals.{type_unknown, length_too_small, length_above_limit, bad_count, cut, not_allowed, bytes_left}

-- a number of w bytes is cut
abbrev pub Short : ℕ → List ℕ → ℕ → Type 0
Short w g number = (number ≡ cut) × (length g < w)

-- a byte that is none of those allowed
abbrev pub NotOneOf : List ℕ → List ℕ → ℕ → Type 0
NotOneOf bs g number = (number ≡ not_allowed) × (1 ≤ length g) × (is_one_of (number_at 1 g 0) bs ≡ false)

-- a string with no zero byte
abbrev pub Unended : List ℕ → ℕ → Type 0
Unended g number = (number ≡ cut) × (no_zero g ≡ true)

-- a value whose length is below -1, or whose bytes pass the frame's end
abbrev pub BelowNull : List ℕ → ℕ → Type 0
BelowNull g number = (number ≡ not_allowed) × (4 ≤ length g) × ((n : ℕ) × (signed_of 4 (number_at 4 g 0) ≡ negsuc (suc n)))

abbrev pub LongValue : List ℕ → ℕ → Type 0
LongValue g number = (number ≡ cut) × (4 ≤ length g) × ((n : ℕ) × (signed_of 4 (number_at 4 g 0) ≡ pos n) × (length g < 4 + n))

-- the fault of an atom that begins g
unfoldable pub AtomFault : Atom → List ℕ → ℕ → Type 0
AtomFault (unsigned w) g number = Short w g number
AtomFault (signed w) g number = Short w g number
AtomFault (one_of bs) g number = Short 1 g number ⊎ NotOneOf bs g number
AtomFault text g number = Unended g number
AtomFault value g number = Short 4 g number ⊎ (BelowNull g number ⊎ LongValue g number)
AtomFault rest g number = ⊥

-- what may stand after an atom, or after a field: after the rest of a frame, nothing
abbrev pub LastAtom : Atom → List ℕ → Type 0
LastAtom (unsigned w) h = Unit {0}
LastAtom (signed w) h = Unit {0}
LastAtom (one_of bs) h = Unit {0}
LastAtom text h = Unit {0}
LastAtom value h = Unit {0}
LastAtom rest h = h ≡ []

abbrev pub LastField : Field → List ℕ → Type 0
LastField (one a) h = LastAtom a h
LastField (counted k i) h = Unit {0}
LastField (ended i) h = Unit {0}

-- a right content, and its bytes at the start of g
pub record AtomBefore (rules : Rules) (a : Atom) (g h : List ℕ) (at : ℕ) : Type 0 where
  pub content : AtomContent a
  pub in_range : AtomInRange a content
  pub writable : atom_able rules a content ≡ true
  pub split : g ≡ atom_bytes a content ++ h
  pub last : LastAtom a h
  pub place : at ≡ length (atom_bytes a content)

-- a fault among atoms, `at` bytes after g's first
pub data AtomsFault (rules : Rules) : List Atom → List ℕ → ℕ → ℕ → Type 0 where
  here : {a : Atom} {more : List Atom} {g : List ℕ} {number : ℕ} → AtomFault a g number → AtomsFault rules (a ∷ more) g number 0
  later : {a : Atom} {more : List Atom} {g h : List ℕ} {number first at : ℕ}
      → AtomBefore rules a g h first → AtomsFault rules more h number at → AtomsFault rules (a ∷ more) g number (first + at)

-- right items, and their bytes at the start of g
pub record ItemsBefore (rules : Rules) (i : Item) (g h : List ℕ) (n at : ℕ) : Type 0 where
  pub contents : List (ItemContent i)
  pub many : length contents ≡ n
  pub in_range : ItemsInRange i contents
  pub writable : items_able rules i contents ≡ true
  pub split : g ≡ items_bytes i contents ++ h
  pub place : at ≡ length (items_bytes i contents)

-- a count that is cut, or that is negative or larger than what is left allows
abbrev pub CountFault : Count → Item → List ℕ → ℕ → Type 0
CountFault k i g number =
    Short 2 g number
    ⊎ ((number ≡ bad_count) × (2 ≤ length g)
    × (((n : ℕ) × (count_of k (number_at 2 g 0) ≡ negsuc n))
    ⊎ ((n : ℕ) × (count_of k (number_at 2 g 0) ≡ pos n) × (length (drop 2 g) < n * item_least i))))

-- n of the smallest items fit into g
abbrev pub Fit : Item → ℕ → List ℕ → Type 0
Fit i n g = n * item_least i ≤ length g

-- a right count: it is there and not negative, and that many of the smallest items fit into what is left after it
pub record RightCount (k : Count) (i : Item) (g : List ℕ) (n : ℕ) : Type 0 where
  pub there : 2 ≤ length g
  pub is : count_of k (number_at 2 g 0) ≡ pos n
  pub fit : Fit i n (drop 2 g)

-- a fault of an item of a counted list: a right count, some right items, fewer than it says, and a fault in the next
pub record ItemFault (rules : Rules) (k : Count) (i : Item) (g : List ℕ) (number at : ℕ) : Type 0 where
  pub n : ℕ
  pub before : ℕ
  pub first : ℕ
  pub inside : ℕ
  pub after : List ℕ
  pub count : RightCount k i g n
  pub items : ItemsBefore rules i (drop 2 g) after before first
  pub fewer : before < n
  pub fault : AtomsFault rules i.atoms after number inside
  pub place : at ≡ 2 + first + inside

-- a fault of a list that ends in zero: some right items, and then nothing, or an item that does not begin with zero and has a fault
pub record EndedFault (rules : Rules) (i : Item) (g : List ℕ) (number at : ℕ) : Type 0 where
  pub before : ℕ
  pub first : ℕ
  pub inside : ℕ
  pub after : List ℕ
  pub items : ItemsBefore rules i g after before first
  pub none : none_ends i items.contents ≡ true
  pub fault :
      ((number ≡ cut) × (after ≡ []) × (inside ≡ 0))
      ⊎ ((1 ≤ length after) × (number_at 1 after 0 ≡ 0 → ⊥) × AtomsFault rules i.atoms after number inside)
  pub place : at ≡ first + inside

unfoldable pub FieldFault : Rules → Field → List ℕ → ℕ → ℕ → Type 0
FieldFault rules (one a) g number at = AtomFault a g number × (at ≡ 0)
FieldFault rules (counted k i) g number at = (CountFault k i g number × (at ≡ 0)) ⊎ ItemFault rules k i g number at
FieldFault rules (ended i) g number at = EndedFault rules i g number at

pub record FieldBefore (rules : Rules) (x : Field) (g h : List ℕ) (at : ℕ) : Type 0 where
  pub content : Content x
  pub in_range : InRange x content
  pub writable : able rules x content ≡ true
  pub split : g ≡ bytes x content ++ h
  pub last : LastField x h
  pub place : at ≡ length (bytes x content)

-- a fault of a body: in a field after right ones, or bytes left over after the last
pub data BodyFault (rules : Rules) : List Field → List ℕ → ℕ → ℕ → Type 0 where
  left : {g : List ℕ} → 1 ≤ length g → BodyFault rules [] g bytes_left 0
  here : {x : Field} {xs : List Field} {g : List ℕ} {number at : ℕ} → FieldFault rules x g number at → BodyFault rules (x ∷ xs) g number at
  later : {x : Field} {xs : List Field} {g h : List ℕ} {number first at : ℕ}
      → FieldBefore rules x g h first → BodyFault rules xs h number at → BodyFault rules (x ∷ xs) g number (first + at)

-- ---- 1 to 4: the header

-- the length word at p is below the smallest length, or above the limit
abbrev pub LengthFault : Kind → ℕ → List ℕ → ℕ → Type 0
LengthFault k p s number =
    ((number ≡ length_too_small)
    × (((n : ℕ) × (signed_of 4 (number_at 4 s p) ≡ negsuc n)) ⊎ ((n : ℕ) × (signed_of 4 (number_at 4 s p) ≡ pos n) × (n < k.smallest))))
    ⊎ ((number ≡ length_above_limit) × ((n : ℕ) × (signed_of 4 (number_at 4 s p) ≡ pos n) × (k.smallest ≤ n) × (k.limit < n)))

-- no kind has the tag
abbrev pub Unknown : List Kind → ℕ → Type 0
Unknown kinds tag = (k : Kind) → IsIn k kinds → k.tag ≡ tag → ⊥

abbrev pub Known : List Kind → ℕ → Kind → Type 0
Known kinds tag k = IsIn k kinds × (k.tag ≡ tag)

unfoldable pub HeaderFault : Envelope → List Kind → List ℕ → ℕ → ℕ → Type 0
HeaderFault typed kinds s number place =
    ((number ≡ type_unknown) × (place ≡ 0) × (1 ≤ length s) × Unknown kinds (number_at 1 s 0))
    ⊎ ((place ≡ 1) × (5 ≤ length s) × ((k : Kind) × Known kinds (number_at 1 s 0) k × LengthFault k 1 s number))
HeaderFault untyped kinds s number place =
    ((number ≡ type_unknown) × (place ≡ 4) × (8 ≤ length s) × Unknown kinds (number_at 4 s 4))
    ⊎ ((place ≡ 0) × (8 ≤ length s) × ((k : Kind) × Known kinds (number_at 4 s 4) k × LengthFault k 0 s number))
HeaderFault bare kinds s number place =
    (number ≡ type_unknown) × (place ≡ 0) × (1 ≤ length s) × Unknown kinds (number_at 1 s 0)

-- the frame is there: its tag is the kind's, its length word is within the kind's bounds, and it ends where the length says
abbrev pub Sized : Kind → ℕ → List ℕ → ℕ → Type 0
Sized k p s end = (n : ℕ) × (signed_of 4 (number_at 4 s p) ≡ pos n) × (k.smallest ≤ n) × (n ≤ k.limit) × (end ≡ p + n)

abbrev pub FrameEnds : Envelope → List Kind → Kind → List ℕ → ℕ → Type 0
FrameEnds typed kinds k s end = Known kinds (number_at 1 s 0) k × Sized k 1 s end
FrameEnds untyped kinds k s end = Known kinds (number_at 4 s 4) k × Sized k 0 s end
FrameEnds bare kinds k s end = Known kinds (number_at 1 s 0) k × (end ≡ 1)
