-- Refused or told need-more, what was lent is as it was: each contract says so.
use Prim.Native.Nat.{ℕ}
use mathlib.Core.List.{List}
use mathlib.Core.Logic.{inl, inr}
use mathlib.Core.Option.{Option, some, none}
use mathlib.Core.Path.{◌≡◌, refl, ◌∙◌}
use lib.ListN.{length}
use Rattle.protocol.specs.Encoded as N
use Rattle.protocol.specs.Encoded.{Encoded}
use Rattle.protocol.specs.Answers.{Unsuccessful, of_encoded}
use Rattle.protocol.specs.Encode.{written_by}
use Rattle.protocol.specs.Kinds.{Kind, Mode}
use Rattle.protocol.specs.Told.{encoded}
use Rattle.protocol.specs.WellFormed.{Contents}
use Rattle.host.specs.Asked.{Asked, encoded_as, written_as}
use Rattle.host.proofs.Numbers.{read_back}
use Rattle.host_layout.specs.LaidOut.{of_numbers}
use Rattle.host_parts.specs.Built.{number_of, of_number, row_numbers}
use Rattle.host_parts.specs.Reads.{row_out, row_read}
use Rattle.reader.specs.Row.{of_row, row_told, places_in, starts_of, lengths_of, over}
use Rattle.reader.specs.RowAnswer as R
use Rattle.reader.specs.RowAnswer.{Row}
use Rattle.row_builder.specs.Building.{built, left_by}
use Rattle.row_builder.specs.Built as B
use Rattle.row_builder.specs.Built.{Built}
use Rattle.lent.specs.Lent.{Building, Lists, Lent}
use Rattle.laws.proofs.Answered.{encoded_unsuccessful, not_success}
use Rattle.laws.proofs.BuilderExactly.{left_kept}

-- ---- encoders

refused_kept : (m : Mode) (k : Kind) (given : Option (Contents k)) (number place : ℕ) (out : List ℕ) → written_by m k given (N.Refused number place) out ≡ out
unfolding written_by
refused_kept m k none number place out = refl
refused_kept m k (some c) number place out = refl

kept : (m : Mode) (k : Kind) (given : Option (Contents k)) (r : Encoded) (out : List ℕ) → Unsuccessful (of_encoded r) → written_by m k given r out ≡ out
kept m k given r out u =
    let e = encoded_unsuccessful r u in
    rw e.2 (refused_kept m k given e.0 e.1 out)

asked_kept : (a : Option Asked) (r : Encoded) (out : List ℕ) → Unsuccessful (of_encoded r) → written_as a r out ≡ out
unfolding written_as
asked_kept none r out u = refl
asked_kept (some a) r out u = kept a.mode a.kind a.given r out u

-- ---- rows

-- no entries are laid over the lists
no_places : (r : Row) (s : List ℕ) (x : Lists) → Unsuccessful (of_row r) → (over (starts_of (places_in r s)) x.starts ≡ x.starts) × (over (lengths_of (places_in r s)) x.lengths ≡ x.lengths)
unfolding of_row
no_places (R.Is l n) s x u = absurd (not_success u)
no_places R.NeedMore s x u = (refl, refl)
no_places (R.Refused number place) s x u = (refl, refl)

same_lists : (x y : Lists) → y.starts ≡ x.starts → y.lengths ≡ x.lengths → y ≡ x
same_lists x y a b = λ j. record { starts = a j; lengths = b j }

-- the status of the sixteen numbers is the row's
row_status : (r : Row) → Unsuccessful (of_numbers (row_out r)) → Unsuccessful (of_row r)
unfolding of_numbers row_out of_row
row_status (R.Is l n) u = absurd (not_success u)
row_status R.NeedMore u = inl refl
row_status (R.Refused number place) u = inr (number, place, refl)

-- ---- rows that are built

-- at the boundary: the room, and the numbers too
both_kept : (r : Built) (p : ℕ) (xs : List ℕ) (x : Building) → Unsuccessful (of_number (number_of r)) → (row_numbers r x.row ≡ x.row) × (left_by r p xs x.room ≡ x.room)
unfolding of_number left_by
both_kept (B.Is row) p xs x u = absurd (not_success u)
both_kept (B.Refused number place) p xs x u = (refl, refl)

same_building : (x y : Building) → y.row ≡ x.row → y.room ≡ x.room → y ≡ x
same_building x y a b = λ j. record { row = a j; room = b j }

pub lent : Lent
lent = record {
  encode = λ m k given out left r h u. h.output ∙ kept m k given (encoded r) out u;
  data_row = λ s x y r h u. let e = no_places (row_told r) s x u in same_lists x y (h.starts ∙ e.0) (h.lengths ∙ e.1);
  host = λ a out left n h u.
      let same = read_back a out h.0 in
      h.1.output ∙ asked_kept a (encoded_as a (length out)) out (rw (h.1.answer, same) at u);
  tusweram_data_row = λ s x y r h u.
      let row = row_read s x.starts x.lengths in
      let e = no_places row s x (row_status row (rw h.answer at u)) in
      same_lists x y (h.starts ∙ e.0) (h.lengths ∙ e.1);
  row_builder = λ definition p xs room left r h u. h.1 ∙ left_kept (built r) p xs room u;
  tusweram_row = λ definition p xs x y n h u.
      let e = both_kept (definition x) p xs x (rw h.answer at u) in
      same_building x y (h.row ∙ e.0) (h.room ∙ e.1);
}
