-- What the start of an input says.
use Prim.Native.Nat.{ℕ, ◌+◌, ◌-◌, ◌%◌, ◌≤◌, ◌<◌}
use mathlib.Core.List.{List, [], ◌∷◌}
use mathlib.Core.Option.{some}
use mathlib.Core.Path.{◌≡◌, refl, ap}
use native.Mathlib.Omega.{arith}
use lib.ListN.{length, get_or}
use borrow.Author.Tests.{lt-ltb, le-ltb}
use Rattle.protocol.specs.Kinds.{Mode, modes, find, frontend, backend, cancel, tls_answer, gss_answer, first_packet}
use Rattle.protocol.specs.Told.{mode_number}
use Rattle.protocol.specs.declared.mode.Mode.TheVariants as M
use Rattle.protocol.specs.declared.mode.Mode.{Mode as Given}
use Rattle.protocol.specs.contracts.mode.Mode as GivenType
use denote.Enum.Declared.{tag_of}
use Rattle.protocol.proofs.Basics.{zero_one}
use Rattle.protocol.proofs.Find.{Apart, keys_onto, find_apart}
use Rattle.listing.specs.Opening as O
use Rattle.std.proofs.Common.{Err}
use Rattle.listing.specs.declared.BadInput.TheVariants as B
use Rattle.listing.specs.declared.BadInput.{BadInput}
use Rattle.listing.specs.declared.Left.TheVariants as L
use Rattle.listing.specs.Listing.{digit_of, sized, opening_by, opening_of, opening_told, bad_line, line_from}

pub empty : (s : List ℕ) → length s ≡ 0 → O.NoMode ≡ opening_of s
unfolding opening_of
empty [] h = refl
empty (b ∷ s) h = absurd (omega arith)

-- a first byte that is a mode's digit
pub named : (s : List ℕ) (m : Mode) (digit : ℕ) → 1 ≤ length s → get_or s 0 0 ≡ digit → find digit_of digit modes ≡ some m → sized m.mode (length s - 1) ≡ opening_of s
unfolding opening_of opening_by
named [] m digit h e f = absurd (omega arith)
named (b ∷ s) m digit h e f = rw (e, f) (ap (sized m.mode) (omega arith))

-- the code takes 48 off by adding 208
pub named_by : (s : List ℕ) (m : Given) → 1 ≤ length s → get_or s 0 0 < 256 → mode_number m ≡ (get_or s 0 0 + 208) % 256 → sized (mode_number m) (length s - 1) ≡ opening_of s
unfolding find frontend backend cancel tls_answer gss_answer first_packet
named_by s M.Frontend h b e = named s frontend 48 h (omega arith) refl
named_by s M.Backend h b e = named s backend 49 h (omega arith) refl
named_by s M.CancelRequest h b e = named s cancel 50 h (omega arith) refl
named_by s M.TlsAnswer h b e = named s tls_answer 51 h (omega arith) refl
named_by s M.GssAnswer h b e = named s gss_answer 52 h (omega arith) refl
named_by s M.FirstPacket h b e = named s first_packet 53 h (omega arith) refl

-- by how many bytes follow it
pub opened_by : (s : List ℕ) (m : Given) → 1 ≤ length s → get_or s 0 0 < 256 → mode_number m ≡ (get_or s 0 0 + 208) % 256 → length s - 1 ≤ 65536 → O.Mode (mode_number m) ≡ opening_of s
unfolding sized
opened_by s m h b e few = rw (le-ltb 65536 (length s - 1) few) at (named_by s m h b e)

pub oversize_by : (s : List ℕ) (m : Given) → 1 ≤ length s → get_or s 0 0 < 256 → mode_number m ≡ (get_or s 0 0 + 208) % 256 → 65536 < length s - 1 → O.Oversize ≡ opening_of s
unfolding sized
oversize_by s m h b e many = rw (lt-ltb 65536 (length s - 1) many) at (named_by s m h b e)

-- a mode as the code's number
pub number_is : (m : Given) → tag_of GivenType.the_type m ≡ mode_number m
number_is M.Frontend = refl
number_is M.Backend = refl
number_is M.CancelRequest = refl
number_is M.TlsAnswer = refl
number_is M.GssAnswer = refl
number_is M.FirstPacket = refl

-- and one that is none
pub unnamed : (s : List ℕ) → 1 ≤ length s → Apart (get_or s 0 0) (keys_onto digit_of modes []) → O.NoMode ≡ opening_of s
unfolding opening_of opening_by
unnamed [] h a = absurd (omega arith)
unnamed (b ∷ s) h a = rw (find_apart digit_of b modes [] a).0 refl

pub unnamed_by : (s : List ℕ) → 1 ≤ length s → get_or s 0 0 < 256 → 5 < (get_or s 0 0 + 208) % 256 → O.NoMode ≡ opening_of s
unfolding frontend backend cancel tls_answer gss_answer first_packet
unnamed_by s h b far = unnamed s h ((((((tt, λ q. omega arith), λ q. omega arith), λ q. omega arith), λ q. omega arith), λ q. omega arith), λ q. omega arith)

-- an input with a mode is not empty
pub opens : (s : List ℕ) (mode : ℕ) → opening_of s ≡ O.Mode mode → 1 ≤ length s
unfolding opening_of
opens [] mode e = absurd (zero_one cc)
opens (b ∷ s) mode e = omega arith

-- the line of a bad input
pub bad_from : (bad : BadInput) (s : List ℕ) (p : ℕ) → line_from (opening_told (Err bad)) s p ≡ record { text = bad_line bad; left = L.Nothing }
unfolding line_from
bad_from B.NoMode s p = refl
bad_from B.Oversize s p = refl
