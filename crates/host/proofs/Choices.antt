-- An arm of a `match` on a kind's number is a row of the call's table: what its encoder promises is what the call promises.
use Prim.Native.Nat.{ℕ}
use mathlib.Core.List.{List, [], ◌∷◌, ◌++◌}
use mathlib.Core.Option.{Option, some}
use mathlib.Core.Path.{◌≡◌, refl, ap, ◌∙◌}
use borrow.Author.Tests.{ne_eqb}
use Rattle.protocol.specs.Encoded as N
use Rattle.protocol.specs.Encoded.{Encoded}
use Rattle.protocol.specs.Encode.{Encodes}
use Rattle.protocol.specs.Kinds.{Kind, Mode, find}
use Rattle.protocol.specs.Refusals.{type_unknown}
use Rattle.protocol.specs.WellFormed.{Contents}
use Rattle.protocol.proofs.Find.{Apart, keys_onto}
use Rattle.host.specs.Asked.{Asked, Row, row_number, asked_in, encoded_as, written_as, answer_number, Answers, Chosen}

pub asks : {m : Mode} {k : Kind} {given : Option (Contents k)} {out : List ℕ} {r : Encoded} {left : List ℕ}
    → Encodes m k given out r left → Chosen (some (record { mode = m; kind = k; given = given })) out r left
unfolding encoded_as written_as
asks h = record { answer = h.answer; output = h.output }

pub chosen : (rows : List Row) {t n : ℕ} {a : Option Asked} {out : List ℕ} {r : Encoded} {left : List ℕ} → t ≡ n → Chosen a out r left → asked_in rows n ≡ a → Chosen (asked_in rows t) out r left
chosen rows e h is = rw (e, is) h

pub arm : (rows : List Row) {t n : ℕ} {m : Mode} {k : Kind} {given : Option (Contents k)} {out : List ℕ} {r : Encoded} {left : List ℕ}
    → t ≡ n → Encodes m k given out r left → asked_in rows n ≡ some (record { mode = m; kind = k; given = given }) → Chosen (asked_in rows t) out r left
arm rows e h is = chosen rows e (asks h) is

-- a number that is none of the first rows' is looked for among the others
find_past : (t : ℕ) (xs ys : List Row) (ks : List ℕ) → Apart t (keys_onto row_number xs ks) → (find row_number t (xs ++ ys) ≡ find row_number t ys) × Apart t ks
unfolding find
find_past t [] ys ks h = (refl, h)
find_past t (x ∷ xs) ys ks h =
    let r = find_past t xs ys (x.number ∷ ks) h in
    (rw (ne_eqb t x.number r.1.1) r.0, r.1.0)

pub past : (xs ys : List Row) (t : ℕ) → Apart t (keys_onto row_number xs []) → asked_in (xs ++ ys) t ≡ asked_in ys t
unfolding asked_in
past xs ys t h = rw (find_past t xs ys [] h).0 refl

-- and a number that is none of a table's is refused, with nothing written
pub unknown : (rows : List Row) (t : ℕ) {out : List ℕ} → Apart t (keys_onto row_number rows []) → Chosen (asked_in rows t) out (N.Refused type_unknown 0) out
unfolding asked_in find encoded_as written_as
unknown rows t h = rw (← append_none rows, past rows [] t h) (record { answer = refl; output = refl })
  where
    append_none : (xs : List Row) → xs ++ [] ≡ xs
    append_none [] = refl
    append_none (x ∷ xs) = ap (λ (l : List Row). x ∷ l) (append_none xs)

-- the answer as a number, and the output
pub told : (a : Option Asked) {out : List ℕ} {r : Encoded} {left : List ℕ} {n : ℕ} → Chosen a out r left → n ≡ answer_number r → Answers a out n left
told a h e = record { answer = e ∙ ap answer_number h.answer; output = rw (← h.answer) h.output }
