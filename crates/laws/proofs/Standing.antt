-- A room begins with the well-formed frame of some columns, as the row says, exactly where the calls find it so, which is decoding's word.
use Prim.Native.Nat.{ℕ}
use mathlib.Core.Bool.{true, false, false≢true}
use mathlib.Core.List.{List, [], ◌∷◌, ◌++◌}
use mathlib.Core.Option.{Option, some, none}
use mathlib.Core.Path.{◌≡◌, refl, ap, sym, ◌∙◌}
use borrow.Author.Tests.{eqb-true, eq-eqb}
use lib.Dec.{eqb}
use lib.ListN.{length, take, drop, take-append-drop}
use Rattle.protocol.specs.Decoded as D
use Rattle.protocol.specs.Decoded.{Decoded}
use Rattle.protocol.specs.declared.List.{List as ListSlot}
use Rattle.protocol.specs.declared.Message.TheVariants as M
use Rattle.protocol.specs.declared.Message.{Message}
use Rattle.protocol.specs.declared.data.DataRow.{DataRow}
use Rattle.protocol.specs.Answers.{of_decoded}
use Rattle.protocol.specs.Bytes.{Bytes}
use Rattle.protocol.specs.Decode.{decode_of}
use Rattle.protocol.specs.Each.{slots_of_each}
use Rattle.protocol.specs.Encode.{items}
use Rattle.protocol.specs.Fields.{ItemContent, bytes, slot}
use Rattle.protocol.specs.Kinds.{Kind, Mode, modes, IsIn, backend, data_row, nullable, typed}
use Rattle.protocol.specs.Rules.{rules_of}
use Rattle.protocol.specs.Views.{view, View}
use Rattle.protocol.specs.WellFormed.{Contents, WellFormed, frame, record_of, body_start}
use Rattle.protocol.proofs.Find.{All, in_all}
use Rattle.protocol.proofs.Views.{Viewed, viewed}
use Rattle.reader.specs.Row.{row_in}
use Rattle.reader.proofs.RowRoom.{row_in_lem, data-row}
use Rattle.row_builder.specs.Building.{stands, is_of}
use Rattle.row_builder.specs.declared.Row.{Row}
use Rattle.laws.specs.BuilderStatements.{Column, row_of, row_frame, Stands, Standing}
use Rattle.laws.proofs.Answered.{recorded}
use Rattle.laws.proofs.Columns.{length-items, backend_in}
use Rattle.laws.proofs.Complete.{complete}
use Rattle.laws.proofs.Items.{both}
use Rattle.laws.proofs.Sound.{sound}
use Rattle.laws.proofs.Table.{mode_found}

-- the list of the row that is decoded of these columns
row_list : (cs : List Column) → row_in (record_of typed data_row (row_of cs)) ≡ some (record { start = 7; count = length cs })
unfolding record_of data_row row_of slots_of_each slot
row_list cs = row_in_lem _ ∙ rw (length-items cs) refl

-- ---- a room that begins with them is found so

module _ {row : Row} {room : List ℕ} {cs : List Column} (s : Stands row room cs) where
  pub at_front : row_frame cs ++ drop row.size room ≡ room
  at_front = rw (← s.bytes) (take-append-drop row.size room)

  pub row_decoded : decode_of (rules_of 1) room ≡ D.Record (record_of typed data_row (row_of cs)) (length (row_frame cs))
  unfolding backend
  row_decoded = recorded (rw at_front at (complete (rules_of 1) backend data_row (row_of cs) (drop row.size room) s.well_formed))

  pub stands-true : stands row room ≡ true
  unfolding stands is_of
  stands-true = rw (row_decoded, row_list cs, eq-eqb _ _ (sym s.columns), eq-eqb _ _ (sym s.size)) refl

-- ---- and what is found so begins with some

-- a content of the kind is some columns
columns_back : (xs : List (ItemContent nullable)) → (cs : List Column) × (xs ≡ items cs)
columns_back [] = ([], refl)
columns_back (x ∷ xs) = let r = columns_back xs in (x.0 ∷ r.0, ap (λ (ys : List (ItemContent nullable)). x ∷ ys) r.1)

content_back : (c : Contents data_row) → (cs : List Column) × (c ≡ row_of cs)
unfolding data_row row_of
content_back c = let r = columns_back c.0 in (r.0, ap (λ (xs : List (ItemContent nullable)). (xs, tt)) r.1)

-- a row's frame is of the kind
made_of : (m : Mode) (k : Kind) (c : Contents k) → IsIn m modes → IsIn k m.kinds → (r : DataRow) → M.DataRow r ≡ record_of m.envelope k c → k ≡ data_row
unfolding view record_of
made_of m k c i j r e =
    let v = in_all Viewed m.kinds (in_all (λ (m : Mode). All Viewed m.kinds) modes viewed m i) k j (slots_of_each bytes slot k.body (body_start m.envelope) c) in
    sym (ap (λ (v : View). v.kind) v) ∙ ap (λ (r : Message). (view r).kind) (sym e)

-- and of the mode
backend_is : (m : Mode) → IsIn m modes → m.mode ≡ 1 → m ≡ backend
unfolding backend
backend_is m i e =
    let a = (mode_found (rules_of 1) m).1 (i, e) in
    let b = (mode_found (rules_of 1) backend).1 (backend_in, refl) in
    cc

module _ (row : Row) (room : List ℕ) where
  -- what is known of the frame that was found, by its mode and kind
  Found : Mode → Kind → Type 0
  Found m k =
      (c : Contents k) → WellFormed (rules_of 1) m k c → take row.size room ≡ frame m.envelope k c → row.size ≡ length (frame m.envelope k c)
      → (l : ListSlot) → row_in (record_of m.envelope k c) ≡ some l → l.count ≡ row.columns → Standing row room

  found_row : Found backend data_row
  unfolding Found backend
  found_row c w b n l e many =
      let r = content_back c in
      let cs = r.0 in
      let list : some (record { start = 7; count = length cs }) ≡ some l = sym (row_list cs) ∙ rw r.1 at e in
      let is : ◌≡◌ {A = ListSlot} (record { start = 7; count = length cs }) l = cc in
      let same : length cs ≡ l.count = ap (λ (l : ListSlot). l.count) is in
      (cs, record { well_formed = rw r.1 at w; bytes = rw r.1 at b; size = rw r.1 at n; columns = sym many ∙ sym same })

  found : (m : Mode) (k : Kind) → m ≡ backend → k ≡ data_row → Found m k
  found m k e f = rw (e, f) found_row

  list_by : Bytes room → (m : Message) (n : ℕ) → decode_of (rules_of 1) room ≡ D.Record m n → is_of row (D.Record m n) ≡ true → (o : Option ListSlot) → row_in m ≡ o → Standing row room
  unfolding Found of_decoded is_of
  list_by b m n d h none e = absurd (false≢true (rw e at h))
  list_by b m n d h (some l) e =
      let t = both (eqb l.count row.columns) (eqb n row.size) (rw e at h) in
      let size = eqb-true n row.size t.1 in
      let a = sound (rules_of 1) room m n b (ap of_decoded d) in
      let r = data-row m l e in
      let w = a.well_formed in
      let k = made_of a.mode a.kind a.content w.known w.kind r.0 (sym r.1 ∙ a.is) in
      found a.mode a.kind (backend_is a.mode w.known w.mode) k a.content w (ap (λ (i : ℕ). take i room) (sym size) ∙ a.bytes) (sym size ∙ a.size) l
      (ap row_in (sym a.is) ∙ e) (eqb-true _ _ t.0)

  found_by : Bytes room → (d : Decoded) → decode_of (rules_of 1) room ≡ d → is_of row d ≡ true → Standing row room
  unfolding is_of
  found_by b (D.Record m n) d h = list_by b m n d h (row_in m) refl
  found_by b D.NeedMore d h = absurd (false≢true h)
  found_by b (D.Refused number place) d h = absurd (false≢true h)

  pub standing : Bytes room → stands row room ≡ true → Standing row room
  unfolding stands
  standing b h = found_by b (decode_of (rules_of 1) room) refl h

  -- exactly so
  pub not_standing : stands row room ≡ false → Standing row room → ⊥
  not_standing h s = false≢true (sym h ∙ stands-true s.1)
