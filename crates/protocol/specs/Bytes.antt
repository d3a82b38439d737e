-- Bytes, and numbers as bytes. A byte is a number below 256, and a buffer is a list of them.
use Rattle.std.specs.Prelude.{ℕ, zero, suc, ◌+◌, ◌-◌, ◌*◌, ◌/◌, ◌%◌, ◌<◌, ◌^◌, Bool, true, false, cond, not, ◌&&◌, ◌||◌, List, [], ◌∷◌, ◌++◌, ltb, eqb, ℤ, pos, negsuc, length, take, drop}

-- the largest signed number of four bytes
abbrev pub longest : ℕ
longest = 2147483647

-- each is a byte
unfoldable pub Bytes : List ℕ → Type 0
Bytes [] = Unit {0}
Bytes (b ∷ bs) = (b < 256) × Bytes bs

-- none is zero
unfoldable pub no_zero : List ℕ → Bool
no_zero [] = true
no_zero (b ∷ bs) = not (eqb b 0) && no_zero bs

unfoldable pub is_one_of : ℕ → List ℕ → Bool
is_one_of b [] = false
is_one_of b (x ∷ xs) = eqb b x || is_one_of b xs

-- the len bytes of s from start on; outside s, the empty part
unfoldable pub part_of : List ℕ → ℕ → ℕ → List ℕ
part_of s start len = cond (ltb (length s) (start + len)) [] (take len (drop start s))

-- the number that some bytes are, the first the most significant; acc is what stands before them
unfoldable pub number_from : ℕ → List ℕ → ℕ
number_from acc [] = acc
number_from acc (b ∷ bs) = number_from (acc * 256 + b) bs

-- the number that the w bytes from p on are
unfoldable pub number_at : ℕ → List ℕ → ℕ → ℕ
number_at w s p = number_from 0 (take w (drop p s))

-- the w bytes of a number, the first the most significant
unfoldable pub be : ℕ → ℕ → List ℕ
be zero n = []
be (suc w) n = be w (n / 256) ++ n % 256 ∷ []

-- a number of w bytes read as a signed one, in two's complement, and back
unfoldable pub signed_of : ℕ → ℕ → ℤ
signed_of w n = cond (ltb n (256 ^ w / 2)) (pos n) (negsuc (256 ^ w - suc n))

unfoldable pub bits_of : ℕ → ℤ → ℕ
bits_of w (pos n) = n
bits_of w (negsuc n) = 256 ^ w - suc n
