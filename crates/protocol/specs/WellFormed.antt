-- The well-formed frames (docs/FORMAT.md 3 and 4): what there is to say of a frame without reading one.
use Rattle.std.specs.Prelude.{ℕ, ◌+◌, ◌≤◌, Bool, true, List, [], ◌∷◌, ◌++◌, ◌≡◌, length}
use Rattle.protocol.specs.declared.Message.{Message}
use Rattle.protocol.specs.declared.Rules.{Rules}
use Rattle.protocol.specs.Bytes.{be}
use Rattle.protocol.specs.Each.{Each, bytes_of_each, slots_of_each, able_each, HoldsEach}
use Rattle.protocol.specs.Fields.{Content, InRange, able, bytes, slot}
use Rattle.protocol.specs.Kinds.{Envelope, typed, untyped, bare, Kind, Mode, modes, IsIn}

-- what a frame of a kind means: a content for each field
abbrev pub Contents : Kind → Type 0
Contents k = Each Content k.body

unfoldable pub body_bytes : (k : Kind) → Contents k → List ℕ
body_bytes k c = bytes_of_each bytes k.body c

-- the length of a frame with n bytes in its body: what its length word says, where it has one
abbrev pub length_of : Envelope → ℕ → ℕ
length_of typed n = 4 + n
length_of untyped n = 8 + n
length_of bare n = 1 + n

-- the bytes before a body of n bytes
unfoldable pub header : Envelope → ℕ → ℕ → List ℕ
header typed tag n = tag ∷ be 4 (length_of typed n)
header untyped tag n = be 4 (length_of untyped n) ++ be 4 tag
header bare tag n = tag ∷ []

-- where the body starts
abbrev pub body_start : Envelope → ℕ
body_start typed = 5
body_start untyped = 8
body_start bare = 1

unfoldable pub frame : Envelope → (k : Kind) → Contents k → List ℕ
frame e k c = header e k.tag (length (body_bytes k c)) ++ body_bytes k c

-- that every field's content is in its type's range, and can be written
abbrev pub AllInRange : (k : Kind) → Contents k → Type 0
AllInRange k c = HoldsEach InRange k.body c

abbrev pub all_able : Rules → (k : Kind) → Contents k → Bool
all_able rules k c = able_each (able rules) k.body c

-- a frame of the kind k in the mode m, with the content c, is well formed
pub record WellFormed (rules : Rules) (m : Mode) (k : Kind) (c : Contents k) : Type 0 where
  pub known : IsIn m modes
  pub mode : m.mode ≡ rules.mode
  pub kind : IsIn k m.kinds
  pub in_range : AllInRange k c
  pub writable : all_able rules k c ≡ true
  pub within_limit : length_of m.envelope (length (body_bytes k c)) ≤ k.limit

-- the record of a content
unfoldable pub record_of : Envelope → (k : Kind) → Contents k → Message
record_of e k c = k.message (slots_of_each bytes slot k.body (body_start e) c)
