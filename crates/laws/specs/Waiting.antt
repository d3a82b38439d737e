-- When a buffer waits for more bytes, from the order of checks (docs/FORMAT.md 3): the mode is known, every check on the header bytes that
-- are there passes, and the frame's end has not arrived.
use Rattle.std.specs.Prelude.{ℕ, ◌+◌, ◌≤◌, ◌<◌, List, ◌⊎◌, ◌≡◌, pos, length}
use Rattle.protocol.specs.Bytes.{number_at, signed_of}
use Rattle.protocol.specs.Kinds.{Envelope, typed, untyped, bare, Kind, Mode, modes, IsIn}

-- the length word at p is a signed number from the kind's smallest length to its limit, and fewer bytes are there than it says
pub record LengthWaits (k : Kind) (p : ℕ) (s : List ℕ) : Type 0 where
  pub n : ℕ
  pub word : signed_of 4 (number_at 4 s p) ≡ pos n
  pub smallest : k.smallest ≤ n
  pub limit : n ≤ k.limit
  pub waits : length s < p + n

-- modes 0 and 1: nothing has arrived; or a type byte of a kind, and of the length not all or a right one
pub record TypedWaits (kinds : List Kind) (s : List ℕ) : Type 0 where
  pub kind : Kind
  pub known : IsIn kind kinds
  pub type : kind.tag ≡ number_at 1 s 0
  pub some : 1 ≤ length s
  pub rest : (length s < 5) ⊎ LengthWaits kind 1 s

-- modes 2 and 5: a code of a kind, and a right length
pub record UntypedWaits (kinds : List Kind) (s : List ℕ) : Type 0 where
  pub kind : Kind
  pub known : IsIn kind kinds
  pub code : kind.tag ≡ number_at 4 s 4
  pub some : 8 ≤ length s
  pub rest : LengthWaits kind 0 s

abbrev pub WaitsIn : Envelope → List Kind → List ℕ → Type 0
WaitsIn typed kinds s = (length s ≡ 0) ⊎ TypedWaits kinds s
WaitsIn untyped kinds s = (length s < 8) ⊎ UntypedWaits kinds s
WaitsIn bare kinds s = length s ≡ 0

pub record Waits (mode : ℕ) (s : List ℕ) : Type 0 where
  pub is : Mode
  pub known : IsIn is modes
  pub number : is.mode ≡ mode
  pub waits : WaitsIn is.envelope is.kinds s
