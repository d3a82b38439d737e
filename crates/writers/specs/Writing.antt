-- What a writer does to the output, and the answer that comes before anything is written.
use Rattle.std.specs.Prelude.{ℕ, ◌+◌, ◌≤◌, Bool, true, false, cond, ◌&&◌, List, [], ◌∷◌, ◌++◌, ◌≡◌, leb, ltb, length, set}
use Rattle.std.proofs.Math.Option.{Option, some}
use Rattle.protocol.specs.Encoded as N
use Rattle.protocol.specs.Encoded.{Encoded}
use Rattle.protocol.specs.Kinds.{Envelope, Kind}
use Rattle.protocol.specs.Refusals.{length_above_limit, output_too_short, not_representable}
use Rattle.protocol.specs.WellFormed.{Contents, frame}

-- the largest number of a usize, at which sizes stop
abbrev pub largest : ℕ
largest = 18446744073709551615

-- d with xs stored from p on
abbrev pub write : List ℕ → ℕ → List ℕ → List ℕ
write d p [] = d
write d p (x ∷ xs) = write (set d p x) (p + 1) xs

-- the bytes of each element, one after the other
abbrev pub joined : {A : Type 0} → (A → List ℕ) → List A → List ℕ
joined f [] = []
joined f (x ∷ xs) = f x ++ joined f xs

-- out is d with the n bytes xs stored from p on, and next is the place after them
pub record Wrote (d : List ℕ) (p : ℕ) (xs : List ℕ) (n : ℕ) (out : List ℕ) (next : ℕ) : Type 0 where
  pub bytes : out ≡ write d p xs
  pub size : length xs ≡ n
  pub place : next ≡ p + n

-- what a writer of the n bytes xs does: it writes them from p on where it may and there is room, else nothing. near follows, and spares callers the
-- cases
pub record Put (may : Bool) (d : List ℕ) (p : ℕ) (xs : List ℕ) (n : ℕ) (out : List ℕ) (next : ℕ) : Type 0 where
  pub fits : may ≡ true → p + n ≤ length d → Wrote d p xs n out next
  pub short : may && leb (p + n) (length d) ≡ false → (out ≡ d) × (next ≡ p)
  pub near : next ≤ p + n

-- left is d with the frame of what is given stored at its start
pub record WroteFrame (e : Envelope) (k : Kind) (given : Option (Contents k)) (d left : List ℕ) : Type 0 where
  pub bytes : (c : Contents k) → given ≡ some c → left ≡ write d 0 (frame e k c)

-- the answer to a frame whose length is size, with uncounted bytes that it does not count
unfoldable pub verdict_of : Bool → ℕ → ℕ → ℕ → ℕ → Encoded
verdict_of able limit size uncounted room =
    cond able
    (cond (ltb limit size) (N.Refused length_above_limit 0)
    (cond (ltb room (size + uncounted)) (N.Refused output_too_short 0)
    (N.Done (size + uncounted))))
    (N.Refused not_representable 0)
