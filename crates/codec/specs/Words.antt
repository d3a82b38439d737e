-- Where a length word fits in a frame.
use Rattle.std.specs.Prelude.{ℕ, ◌+◌, ◌≤◌, ◌<◌, List, ◌≡◌, length}
use Rattle.protocol.specs.Bytes.{longest}

-- a word fits in the frame f at each place below `ends`, of which there may be none; and `ends` is so small that a negative length, read as a
-- number without a sign, is larger
abbrev pub WordsEnd : List ℕ → ℕ → Type 0
WordsEnd f ends = (0 < ends → ends + 3 ≡ length f) × (ends ≤ longest)
