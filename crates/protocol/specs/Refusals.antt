-- The refusals' numbers (docs/FORMAT.md 6).
use Rattle.std.specs.Prelude.{ℕ}

abbrev pub mode_unknown : ℕ
mode_unknown = 1

abbrev pub type_unknown : ℕ
type_unknown = 2

abbrev pub length_too_small : ℕ
length_too_small = 3

abbrev pub length_above_limit : ℕ
length_above_limit = 4

abbrev pub bad_count : ℕ
bad_count = 5

abbrev pub cut : ℕ
cut = 6

abbrev pub not_allowed : ℕ
not_allowed = 7

abbrev pub bytes_left : ℕ
bytes_left = 8

abbrev pub output_too_short : ℕ
output_too_short = 9

abbrev pub not_representable : ℕ
not_representable = 10

abbrev pub no_such_element : ℕ
no_such_element = 11
