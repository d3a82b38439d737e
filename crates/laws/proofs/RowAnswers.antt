-- What reading a whole row answers, by what decoding does.
use Prim.Native.Nat.{ℕ, ◌<◌}
use mathlib.Core.Bool.{Bool, true, false, cond, ◌&&◌}
use mathlib.Core.List.{[], ◌∷◌}
use mathlib.Core.Logic.{◌⊎◌, inl, inr}
use mathlib.Core.Option.{Option, some, none}
use mathlib.Core.Path.{◌≡◌, refl}
use borrow.Author.Tests.{le-leb, lt-leb}
use lib.Dec.{leb}
use lib.ListN.{length}
use Rattle.protocol.specs.Decoded as D
use Rattle.protocol.specs.Decoded.{Decoded}
use Rattle.protocol.specs.declared.List.{List as ListSlot}
use Rattle.protocol.specs.declared.Message.TheVariants as M
use Rattle.protocol.specs.declared.Message.{Message}
use Rattle.protocol.specs.declared.data.DataRow.{DataRow}
use Rattle.protocol.specs.Answers.{refusal, of_decoded}
use Rattle.protocol.specs.Bytes.{is_one_of}
use Rattle.protocol.specs.Refusals.{output_too_short, no_such_element}
use Rattle.protocol.specs.Rules.{rules_of}
use Rattle.reader.specs.Row.{row_in, row_fits, row_by, of_row}
use Rattle.reader.proofs.RowRoom.{row_in_lem, data-row}
use Rattle.reader.specs.RowAnswer as R
use Rattle.reader.specs.RowAnswer.{Row}
use Rattle.laws.specs.ReaderStatements.{RowAnswers, row_numbers, RowNumbered}
use Rattle.laws.specs.Statements.{the_decoder, GivesNothing, decode_numbers}
use Rattle.laws.proofs.Answered.{recorded, waiting, refused, refusal_is, needs_refusal, not_success}
use Rattle.laws.proofs.Numbered.{success_nothing, needs_nothing, refusal_nothing, one_of_more, numbered}

-- a message that is no row
no_row_lem : (m : Message) → ((r : DataRow) → m ≡ M.DataRow r → ⊥) → (o : Option ListSlot) → row_in m ≡ o → (n starts lengths : ℕ) → of_row (row_fits o n starts lengths) ≡ refusal no_such_element 0
unfolding row_fits of_row
no_row_lem m other none e n starts lengths = refl
no_row_lem m other (some l) e n starts lengths = let w = data-row m l e in absurd (other w.0 w.1)

-- lists of which one is too short
too_short : (count starts lengths : ℕ) → (starts < count) ⊎ (lengths < count) → leb count starts && leb count lengths ≡ false
too_short count starts lengths (inl h) = rw (lt-leb _ _ h) refl
too_short count starts lengths (inr h) = by (leb count starts)
  where
    by : (t : Bool) → t && leb count lengths ≡ false
    by true = lt-leb _ _ h
    by false = refl

pub row_answers : RowAnswers the_decoder
unfolding row_by row_fits of_row
row_answers s starts₀ starts₁ lengths₀ lengths₁ r h = record {
  need_more = λ e. rw (h.answer, waiting e) refl;
  refused = λ number place e. rw (h.answer, refused e) refl;
  other = λ m n e no. rw (h.answer, recorded e) (no_row_lem m no (row_in m) refl n (length starts₀) (length lengths₀));
  short = λ row n e w. rw (h.answer, recorded e, row_in_lem row, too_short _ _ _ w) refl;
  row = λ row n e a b. rw (h.answer, recorded e, row_in_lem row, le-leb _ _ a, le-leb _ _ b) refl;
}

-- ---- the number of a row that is refused

row_nothing : (r : Row) → GivesNothing (of_row r)
unfolding of_row
row_nothing (R.Is l n) = success_nothing
row_nothing R.NeedMore = needs_nothing
row_nothing (R.Refused number place) = refusal_nothing number place

-- of a message that was decoded: 11, or 9
fits_number : (o : Option ListSlot) (n starts lengths number place : ℕ) → of_row (row_fits o n starts lengths) ≡ refusal number place → is_one_of number row_numbers ≡ true
unfolding row_fits of_row is_one_of
fits_number none n starts lengths number place e = let q : 11 ≡ number = (refusal_is e).0 in rw (← q) refl
fits_number (some l) n starts lengths number place e = by (leb l.count starts && leb l.count lengths) e
  where
    by : (t : Bool) → of_row (cond t (R.Is l n) (R.Refused output_too_short 0)) ≡ refusal number place → is_one_of number row_numbers ≡ true
    by true h = absurd (not_success (inr (number, place, h)))
    by false h = let q : 9 ≡ number = (refusal_is h).0 in rw (← q) refl

row_number : (d : Decoded) → ((c p : ℕ) → of_decoded d ≡ refusal c p → is_one_of c decode_numbers ≡ true) → (starts lengths number place : ℕ) → of_row (row_by d starts lengths) ≡ refusal number place → is_one_of number row_numbers ≡ true
unfolding row_by of_row of_decoded
row_number (D.Record m n) from starts lengths number place e = fits_number (row_in m) n starts lengths number place e
row_number D.NeedMore from starts lengths number place e = absurd (needs_refusal e)
row_number (D.Refused c p) from starts lengths number place e =
    let q : c ≡ number = (refusal_is e).0 in
    rw (← q) (one_of_more c decode_numbers (9 ∷ 11 ∷ []) (from c p refl))

pub row_numbered : RowNumbered
row_numbered s starts₀ starts₁ lengths₀ lengths₁ r b h = record {
  number = λ number place e.
      row_number (the_decoder (rules_of 1) s) (numbered (rules_of 1) s b).number (length starts₀) (length lengths₀) number place (rw h.answer at e);
  nothing = row_nothing r;
}
