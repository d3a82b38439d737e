-- A contract of each form leaves one answer, and one final buffer.
use Prim.Native.Nat.{ℕ, zero, suc, ◌+◌, ◌≤◌}
use mathlib.Core.Bool.{Bool, true, false, ◌&&◌}
use mathlib.Core.List.{List, [], ◌∷◌}
use mathlib.Core.Option.{Option, some, none}
use mathlib.Core.Path.{◌≡◌, ap, refl, sym, ◌∙◌}
use native.Mathlib.Omega.{arith}
use lib.Dec.{leb}
use lib.ListN.{length, take}
use Rattle.std.specs.Prelude.{Result, Ok, Err}
use Rattle.std.specs.Prelude.{Option as Maybe, Some, None}
use Rattle.protocol.specs.Decoded as D
use Rattle.protocol.specs.Decoded.{Decoded}
use Rattle.protocol.specs.Encoded as N
use Rattle.protocol.specs.Encoded.{Encoded}
use Rattle.protocol.specs.Found as F
use Rattle.protocol.specs.Found.{Found}
use Rattle.protocol.specs.declared.Element.{Element}
use Rattle.protocol.specs.declared.List.{List as ListSlot}
use Rattle.protocol.specs.declared.Message.{Message}
use Rattle.protocol.specs.declared.Span.{Span}
use Rattle.protocol.specs.declared.data.FieldDescription.{FieldDescription}
use Rattle.protocol.specs.declared.mode.Mode.TheVariants as M
use Rattle.protocol.specs.declared.mode.Mode.{Mode}
use Rattle.protocol.specs.declared.refusal.Refusal.TheVariants as R
use Rattle.protocol.specs.declared.refusal.Refusal.{Refusal}
use Rattle.protocol.specs.declared.refusal.Refused.{Refused}
use Rattle.protocol.specs.declared.refusal.Unread.TheVariants as U
use Rattle.protocol.specs.declared.refusal.Unread.{Unread}
use Rattle.protocol.specs.Encode.{written_by}
use Rattle.protocol.specs.Each.{Each}
use Rattle.protocol.specs.Fields.{AtomSlot}
use Rattle.protocol.specs.Kinds.{error_field, pair}
use Rattle.protocol.specs.Reading.{Read, got, bad}
use Rattle.protocol.specs.Stream as Stream
use Rattle.protocol.specs.Stream.{whole, need_more, refused, frame, stop}
use Rattle.protocol.specs.Told.{number_of, mode_number, decoded, encoded, found}
use Rattle.protocol.proofs.Basics.{zero_one}
use Rattle.codec.specs.CursorRead.{step_read, value_read, listed_read, passed_read}
use Rattle.codec.specs.declared.Cursor.{Cursor}
use Rattle.envelope.specs.Header as H
use Rattle.envelope.specs.Header.{Header}
use Rattle.envelope.specs.Steps.{headed, unread}
use Rattle.items.specs.ItemRead.{element_read, error_read, field_read, pair_read}
use Rattle.listing.specs.Listing.{step_of, step_told, end_told, opening_told}
use Rattle.listing.specs.Opening as O
use Rattle.listing.specs.Opening.{Opening}
use Rattle.listing.specs.declared.BadInput.TheVariants as B
use Rattle.listing.specs.declared.BadInput.{BadInput}
use Rattle.listing.specs.declared.End.TheVariants as E
use Rattle.listing.specs.declared.End.{End}
use Rattle.writers.proofs.Puts.{has_room}
use Rattle.reader.specs.Row.{row_told, places_in, starts_of, lengths_of, over}
use Rattle.reader.specs.RowAnswer.{Row}
use Rattle.row_builder.specs.Building.{built}
use Rattle.row_builder.specs.Built.{Built}
use Rattle.row_builder.specs.declared.Row.{Row as Stored}
use Rattle.one_answer.specs.Forms.{Tells, ByDefinition, WithBuffer, AnswersTell, StepsTell, HeadersTell, ItemsTell, ListingTells, BuildersTell, ToldWithBuffer, Modes, Frames, Encoders, HostEncoders, Writers, Pages, Readers, WholeRows, HostRows, HostBuilders}

-- ---- a step's answer is told by what it reads

-- what can be made back is told by what was made of it
told_back : {A B : Type 0} (set : A → B) (back : B → A) → ((a : A) → back (set a) ≡ a) → Tells set
told_back set back again definition r s p q = sym (again r) ∙ ap back (p ∙ sym q) ∙ again s

-- item n of a list, or what stands in for those behind its end
abbrev item : {A : Type 0} → A → List A → ℕ → A
item other [] n = other
item other (x ∷ xs) zero = x
item other (x ∷ xs) (suc n) = item other xs n

-- a refusal by its number, and a mode by its own
abbrev from_one : List Refusal
from_one =
    R.ModeUnknown ∷ R.TypeUnknown ∷ R.LengthTooSmall ∷ R.LengthAboveLimit ∷ R.BadCount ∷ R.Cut ∷ R.NotAllowed ∷ R.BytesLeft ∷ R.OutputTooShort
    ∷ R.NotRepresentable ∷ R.NoSuchElement ∷ []

abbrev refusal_back : ℕ → Refusal
refusal_back n = item R.ModeUnknown (R.ModeUnknown ∷ from_one) n

refusal_again : (r : Refusal) → refusal_back (number_of r) ≡ r
refusal_again R.ModeUnknown = refl
refusal_again R.TypeUnknown = refl
refusal_again R.LengthTooSmall = refl
refusal_again R.LengthAboveLimit = refl
refusal_again R.BadCount = refl
refusal_again R.Cut = refl
refusal_again R.NotAllowed = refl
refusal_again R.BytesLeft = refl
refusal_again R.OutputTooShort = refl
refusal_again R.NotRepresentable = refl
refusal_again R.NoSuchElement = refl

abbrev mode_back : ℕ → Mode
mode_back n = item M.Frontend (M.Frontend ∷ M.Backend ∷ M.CancelRequest ∷ M.TlsAnswer ∷ M.GssAnswer ∷ M.FirstPacket ∷ []) n

mode_again : (m : Mode) → mode_back (mode_number m) ≡ m
mode_again M.Frontend = refl
mode_again M.Backend = refl
mode_again M.CancelRequest = refl
mode_again M.TlsAnswer = refl
mode_again M.GssAnswer = refl
mode_again M.FirstPacket = refl

-- a refusal with its place
abbrev refused_back : ℕ → ℕ → Refused
refused_back number place = record { refusal = refusal_back number; place = place }

refused_again : (r : Refused) → refused_back (number_of r.refusal) r.place ≡ r
refused_again r = ap (λ (x : Refusal). record { refusal = x; place = r.place }) (refusal_again r.refusal)

abbrev decoded_back : Decoded → Result (Message × ℕ) Unread
decoded_back (D.Record m n) = Ok (m, n)
decoded_back D.NeedMore = Err U.NeedMore
decoded_back (D.Refused number place) = Err (U.Refused (refused_back number place))

decoded_again : (r : Result (Message × ℕ) Unread) → decoded_back (decoded r) ≡ r
decoded_again (Ok (m, n)) = refl
decoded_again (Err U.NeedMore) = refl
decoded_again (Err (U.Refused r)) = ap (λ (x : Refused). Err (U.Refused x)) (refused_again r)

abbrev found_back : Found → Result Element Unread
found_back (F.Is e) = Ok e
found_back F.NeedMore = Err U.NeedMore
found_back (F.Refused number place) = Err (U.Refused (refused_back number place))

found_again : (r : Result Element Unread) → found_back (found r) ≡ r
found_again (Ok e) = refl
found_again (Err U.NeedMore) = refl
found_again (Err (U.Refused r)) = ap (λ (x : Refused). Err (U.Refused x)) (refused_again r)

abbrev encoded_back : Encoded → Result ℕ Refused
encoded_back (N.Done n) = Ok n
encoded_back (N.Refused number place) = Err (refused_back number place)

encoded_again : (r : Result ℕ Refused) → encoded_back (encoded r) ≡ r
encoded_again (Ok n) = refl
encoded_again (Err r) = ap Err (refused_again r)

-- a step that can only be cut
abbrev step_back : {X : Type 0} → Read X → Maybe (X × Cursor)
step_back (got x q) = Some (x, record { at = q })
step_back (bad number place) = None

step_again : {X : Type 0} (at : ℕ) (r : Maybe (X × Cursor)) → step_back (step_read at r) ≡ r
step_again at (Some (x, c)) = refl
step_again at None = refl

-- one with several refusals, by what its value is made of
abbrev read_back : {X Y : Type 0} → (X → Y) → Read X → Result (Y × Cursor) Refused
read_back make (got x q) = Ok (make x, record { at = q })
read_back make (bad number place) = Err (refused_back number place)

abbrev span_back : Option Span → Maybe Span
span_back (some s) = Some s
span_back none = None

value_again : (r : Result (Maybe Span × Cursor) Refused) → read_back span_back (value_read r) ≡ r
value_again (Ok (Some s, c)) = refl
value_again (Ok (None, c)) = refl
value_again (Err r) = ap Err (refused_again r)

listed_again : (r : Result (ListSlot × Cursor) Refused) → read_back (λ l. l) (listed_read r) ≡ r
listed_again (Ok (l, c)) = refl
listed_again (Err r) = ap Err (refused_again r)

abbrev passed_back : Read (Unit {0}) → Result Cursor Refused
passed_back (got t q) = Ok (record { at = q })
passed_back (bad number place) = Err (refused_back number place)

passed_again : (r : Result Cursor Refused) → passed_back (passed_read r) ≡ r
passed_again (Ok c) = refl
passed_again (Err r) = ap Err (refused_again r)

field_again : (r : Result (FieldDescription × Cursor) Refused) → read_back (λ d. d) (field_read r) ≡ r
field_again (Ok (d, c)) = refl
field_again (Err r) = ap Err (refused_again r)

error_again : (r : Result ((ℕ × Span) × Cursor) Refused) → read_back {X = Each AtomSlot error_field.atoms} (λ s. (s.0, s.1.0)) (error_read r) ≡ r
error_again (Ok ((code, string), c)) = refl
error_again (Err r) = ap Err (refused_again r)

pair_again : (r : Result ((Span × Span) × Cursor) Refused) → read_back {X = Each AtomSlot pair.atoms} (λ s. (s.0, s.1.0)) (pair_read r) ≡ r
pair_again (Ok ((name, value), c)) = refl
pair_again (Err r) = ap Err (refused_again r)

element_again : (r : Result (Element × Cursor) Refused) → read_back (λ e. e) (element_read r) ≡ r
element_again (Ok (e, c)) = refl
element_again (Err r) = ap Err (refused_again r)

-- why there is no frame, and where a header says that it ends
abbrev unread_back : Header → Unread
unread_back (H.Frame n) = U.NeedMore
unread_back H.NeedMore = U.NeedMore
unread_back (H.Refused number place) = U.Refused (refused_back number place)

unread_again : (u : Unread) → unread_back (unread u) ≡ u
unread_again U.NeedMore = refl
unread_again (U.Refused r) = ap U.Refused (refused_again r)

abbrev headed_back : Header → Result ℕ Unread
headed_back (H.Frame n) = Ok n
headed_back H.NeedMore = Err U.NeedMore
headed_back (H.Refused number place) = Err (U.Refused (refused_back number place))

headed_again : (r : Result ℕ Unread) → headed_back (headed r) ≡ r
headed_again (Ok n) = refl
headed_again (Err U.NeedMore) = refl
headed_again (Err (U.Refused r)) = ap (λ (x : Refused). Err (U.Refused x)) (refused_again r)

abbrev end_back : Stream.End → End
end_back whole = E.Whole
end_back need_more = E.NeedMore
end_back (refused number) = E.Refused (refusal_back number)

end_again : (r : End) → end_back (end_told r) ≡ r
end_again E.Whole = refl
end_again E.NeedMore = refl
end_again (E.Refused r) = ap E.Refused (refusal_again r)

abbrev listing_back : Stream.Step → Result (Message × ℕ) End
listing_back (frame m n) = Ok (m, n)
listing_back (stop end) = Err (end_back end)

listing_again : (r : Result (Message × ℕ) End) → listing_back (step_of (step_told r)) ≡ r
listing_again (Ok (m, n)) = refl
listing_again (Err E.Whole) = refl
listing_again (Err E.NeedMore) = refl
listing_again (Err (E.Refused r)) = ap (λ (x : Refusal). Err (E.Refused x)) (refusal_again r)

abbrev opening_back : Opening → Result Mode BadInput
opening_back (O.Mode number) = Ok (mode_back number)
opening_back O.NoMode = Err B.NoMode
opening_back O.Oversize = Err B.Oversize

opening_again : (r : Result Mode BadInput) → opening_back (opening_told r) ≡ r
opening_again (Ok mode) = ap Ok (mode_again mode)
opening_again (Err B.NoMode) = refl
opening_again (Err B.Oversize) = refl

abbrev built_back : Built → Result Stored Refused
built_back (Built.Is row) = Ok row
built_back (Built.Refused number place) = Err (refused_back number place)

built_again : (r : Result Stored Refused) → built_back (built r) ≡ r
built_again (Ok row) = refl
built_again (Err r) = ap Err (refused_again r)

rest_one : {n m : ℕ} (r s : Span) → got r n ≡ got s m → r ≡ s
rest_one r s e = cc

pub answers_tell : AnswersTell
answers_tell = record {
  decoding = told_back decoded decoded_back decoded_again;
  element = told_back found found_back found_again;
  encoding = told_back encoded encoded_back encoded_again;
  refusal = told_back number_of refusal_back refusal_again;
  mode = told_back mode_number mode_back mode_again;
}

pub steps_tell : StepsTell
steps_tell = record {
  step = λ X at. told_back (step_read at) step_back (step_again at);
  value = told_back value_read (read_back span_back) value_again;
  rest = λ end definition r s p q. rest_one r s (p ∙ sym q);
  listed = told_back listed_read (read_back (λ l. l)) listed_again;
  passed = told_back passed_read passed_back passed_again;
}

pub headers_tell : HeadersTell
headers_tell = told_back headed headed_back headed_again

pub items_tell : ItemsTell
items_tell = record {
  field = told_back field_read (read_back (λ d. d)) field_again;
  error_field = told_back error_read (read_back (λ s. (s.0, s.1.0))) error_again;
  pair = told_back pair_read (read_back (λ s. (s.0, s.1.0))) pair_again;
  element = told_back element_read (read_back (λ e. e)) element_again;
}

pub listing_tells : ListingTells
listing_tells = record {
  step = told_back (λ r. step_of (step_told r)) listing_back listing_again;
  ending = told_back end_told end_back end_again;
  opening = told_back opening_told opening_back opening_again;
}

pub builders_tell : BuildersTell
builders_tell = told_back built built_back built_again

-- ---- what a definition says

pub by_definition : ByDefinition
by_definition A definition r s p q = p ∙ sym q

pub with_buffer : WithBuffer
with_buffer A B definition left r s x y p q =
    let same = p.0 ∙ sym q.0 in
    (same, p.1 ∙ ap left same ∙ sym q.1)

pub told_with_buffer : ToldWithBuffer
told_with_buffer A B C set definition left tells r s x y p q = (tells definition r s p.0 q.0, p.1 ∙ ap left (p.0 ∙ sym q.0) ∙ sym q.1)

most : (m : Mode) → mode_number m ≤ 5
most M.Frontend = omega arith
most M.Backend = omega arith
most M.CancelRequest = omega arith
most M.TlsAnswer = omega arith
most M.GssAnswer = omega arith
most M.FirstPacket = omega arith

pub modes : Modes
modes n (Ok a) (Ok b) p q = ap Ok (told_back mode_number mode_back mode_again n a b p q)
modes n (Ok a) (Err e) p q = absurd (omega (arith, most a, p, q.0))
modes n (Err d) (Ok b) p q = absurd (omega (arith, most b, q, p.0))
modes n (Err d) (Err e) p q =
    let same = p.1 ∙ sym q.1 in
    ap Err (λ j. record { 0 = same j })

-- ---- records of promises

pub frames : Frames
frames header s (Ok f) (Ok g) p q =
    let same : length f ≡ length g = let e : H.Frame (length f) ≡ H.Frame (length g) = sym p.header ∙ q.header in cc in
    ap Ok (p.bytes ∙ ap (λ n. take n s) same ∙ sym q.bytes)
frames header s (Ok f) (Err U.NeedMore) p q = let e : H.NeedMore ≡ H.Frame (length f) = q ∙ p.header in absurd (zero_one cc)
frames header s (Ok f) (Err (U.Refused r)) p q =
    let e : H.Refused (number_of r.refusal) r.place ≡ H.Frame (length f) = q ∙ p.header in
    absurd (zero_one cc)
frames header s (Err U.NeedMore) (Ok f) p q = let e : H.NeedMore ≡ H.Frame (length f) = p ∙ q.header in absurd (zero_one cc)
frames header s (Err (U.Refused r)) (Ok f) p q =
    let e : H.Refused (number_of r.refusal) r.place ≡ H.Frame (length f) = p ∙ q.header in
    absurd (zero_one cc)
frames header s (Err u) (Err v) p q = ap Err (told_back unread unread_back unread_again header u v p q)

pub encoders : Encoders
encoders m k given out r s x y p q =
    let same = p.answer ∙ sym q.answer in (
      answers_tell.encoding _ r s p.answer q.answer,
      p.output ∙ ap (λ (z : Encoded). written_by m k given z out) same ∙ sym q.output,
    )

pub host_encoders : HostEncoders
host_encoders a out r s x y p q = (p.answer ∙ sym q.answer, p.output ∙ sym q.output)

pub writers : Writers
writers may out at xs n r s x y p q = by (may && leb (at + n) (length out)) refl
  where
    by : (t : Bool) → may && leb (at + n) (length out) ≡ t → (r ≡ s) × (x ≡ y)
    by true e =
        let h = has_room may at n refl e in
        let v = p.fits h.0 h.1 in
        let w = q.fits h.0 h.1 in
        (v.place ∙ sym w.place, v.bytes ∙ sym w.bytes)
    by false e = ((p.short e).1 ∙ sym (q.short e).1, (p.short e).0 ∙ sym (q.short e).0)

pub pages : Pages
pages lines room r s x y p q =
    let count = p.count ∙ sym q.count in
    let left = p.left ∙ sym q.left in
    (λ j. record { count = count j; left = left j }, p.bytes ∙ sym q.bytes)

pub readers : Readers
readers held at r s p q =
    let same = p.0 ∙ sym q.0 in
    let there = p.1 ∙ sym q.1 in
    λ j. record { frame = same j; at = there j }

abbrev row_back : Row → Result (ListSlot × ℕ) Unread
row_back (Row.Is l n) = Ok (l, n)
row_back Row.NeedMore = Err U.NeedMore
row_back (Row.Refused number place) = Err (U.Refused (refused_back number place))

row_again : (r : Result (ListSlot × ℕ) Unread) → row_back (row_told r) ≡ r
row_again (Ok (l, n)) = refl
row_again (Err U.NeedMore) = refl
row_again (Err (U.Refused r)) = ap (λ (x : Refused). Err (U.Refused x)) (refused_again r)

pub whole_rows : WholeRows
whole_rows buf starts lengths r s x y u v p q =
    let same = p.answer ∙ sym q.answer in (
      told_back row_told row_back row_again _ r s p.answer q.answer,
      p.starts ∙ ap (λ (z : Row). over (starts_of (places_in z buf)) starts) same ∙ sym q.starts,
      p.lengths ∙ ap (λ (z : Row). over (lengths_of (places_in z buf)) lengths) same ∙ sym q.lengths,
    )

pub host_rows : HostRows
host_rows buf starts lengths r s x y u v p q = (p.answer ∙ sym q.answer, p.starts ∙ sym q.starts, p.lengths ∙ sym q.lengths)

pub host_builders : HostBuilders
host_builders built p xs row room r s x y u v h k = (h.answer ∙ sym k.answer, h.row ∙ sym k.row, h.room ∙ sym k.room)
