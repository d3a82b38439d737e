-- The two passes together: what is measured is what the arguments' content needs, and what is written is its bytes.
use Prim.Native.Nat.{ℕ, ◌+◌, ◌≤◌, ◌<◌, min}
use mathlib.Core.Bool.{Bool, true, false, cond, ◌&&◌, and-true, and_assoc}
use mathlib.Core.List.{List, [], ◌∷◌, map}
use mathlib.Core.Option.{some, none}
use mathlib.Core.Path.{◌≡◌, refl, ap, ◌∙◌, sym}
use native.Mathlib.Omega.{arith}
use borrow.Author.Tests.{leb-true, le-leb}
use lib.Dec.{leb}
use lib.ListN.{length, take, drop, length-append}
use Rattle.std.specs.Prelude.{Result, Ok, Err}
use Rattle.protocol.specs.declared.Rules.{Rules}
use Rattle.protocol.specs.declared.data.FieldDescription.{FieldDescription}
use Rattle.protocol.specs.declared.refusal.Refused.{Refused}
use Rattle.protocol.specs.Bytes.{be, no_zero}
use Rattle.protocol.specs.Each.{bytes_of_each, able_each}
use Rattle.protocol.specs.Encode.{one_before, row_field_given, row_fields_given}
use Rattle.protocol.specs.Fields.{ItemContent, atom_bytes, atom_able, item_bytes, item_able, items_bytes, items_able}
use Rattle.protocol.specs.Kinds.{row_field}
use Rattle.protocol.specs.Told.{encoded}
use Rattle.protocol.proofs.Basics.{and_left, and_right}
use Rattle.writers.specs.Writing.{largest, write}
use Rattle.writers.proofs.Laws.{write_append, length-write}
use Rattle.row_fields.specs.declared.Pass.{Pass}
use Rattle.row_fields.specs.Passes.{passed, named, after, step_pass, step_out, all_pass, all_out, told, writing_pass}
use Rattle.row_fields.proofs.Fields.{part_length, inside, kept}

-- ---- the content

abbrev pub contents : List FieldDescription → List ℕ → List (ItemContent row_field)
contents fs run = map (λ f. row_field_given f run) fs

-- every name can be written; every name stands in the run; the bytes of all fields
abbrev pub all_named : List FieldDescription → List ℕ → Bool
all_named [] run = true
all_named (f ∷ fs) run = named f run && all_named fs run

abbrev pub all_inside : List FieldDescription → List ℕ → Bool
all_inside [] run = true
all_inside (f ∷ fs) run = leb (f.name.start + f.name.len) (length run) && all_inside fs run

abbrev pub total : List FieldDescription → ℕ
total [] = 0
total (f ∷ fs) = f.name.len + 19 + total fs

pub given_is : (fs : List FieldDescription) (run : List ℕ) → row_fields_given fs run ≡ cond (all_inside fs run) (some (contents fs run)) none
unfolding row_fields_given
given_is [] run = refl
given_is (f ∷ fs) run = by (leb (f.name.start + f.name.len) (length run)) (all_inside fs run) (given_is fs run)
  where
    by : (a b : Bool) → row_fields_given fs run ≡ cond b (some (contents fs run)) none
        → cond a (one_before (row_field_given f run) (row_fields_given fs run)) none ≡ cond (a && b) (some (row_field_given f run ∷ contents fs run)) none
    by true true e = rw e refl
    by true false e = rw e refl
    by false b e = refl

pub length-contents : (fs : List FieldDescription) (run : List ℕ) → length (contents fs run) ≡ length fs
length-contents [] run = refl
length-contents (f ∷ fs) run = omega (arith, length-contents fs run)

-- ---- whether it can be written

and_swap : (a b c d : Bool) → (a && b) && (c && d) ≡ (a && c) && (b && d)
and_swap true true c d = refl
and_swap true false true d = refl
and_swap true false false d = refl
and_swap false b c d = refl

pub able_contents : (rules : Rules) (fs : List FieldDescription) (run : List ℕ) → all_inside fs run && items_able rules row_field (contents fs run) ≡ all_named fs run
unfolding items_able item_able able_each atom_able named passed
able_contents rules [] run = refl
able_contents rules (f ∷ fs) run =
    let e : no_zero (take f.name.len (drop f.name.start run)) && true ≡ no_zero (take f.name.len (drop f.name.start run)) = and-true _ in
    let s = and_swap (leb (f.name.start + f.name.len) (length run)) (all_inside fs run) (no_zero (take f.name.len (drop f.name.start run))) (items_able rules row_field (contents fs run)) in
    rw (e, s, able_contents rules fs run) refl

-- ---- its bytes

length_field : (f : FieldDescription) (run : List ℕ) → f.name.start + f.name.len ≤ length run → length (item_bytes row_field (row_field_given f run)) ≡ f.name.len + 19
unfolding item_bytes bytes_of_each atom_bytes be
length_field f run h =
    let part = take f.name.len (drop f.name.start run) in
    let n = part_length run f.name.start f.name.len h in
    simp (length-append) (omega (arith, n))

pub length-contents_bytes : (fs : List FieldDescription) (run : List ℕ) → all_inside fs run ≡ true → length (items_bytes row_field (contents fs run)) ≡ total fs
unfolding items_bytes
length-contents_bytes [] run e = refl
length-contents_bytes (f ∷ fs) run e =
    let a = leb-true _ _ (and_left (leb (f.name.start + f.name.len) (length run)) (all_inside fs run) e) in
    let r = length-contents_bytes fs run (and_right (leb (f.name.start + f.name.len) (length run)) e) in
    omega (arith, length-append (item_bytes row_field (row_field_given f run)) (items_bytes row_field (contents fs run)), length_field f run a, r)

-- ---- what a pass measures

pub pass_ok : (fs : List FieldDescription) (run : List ℕ) (c : Pass) → c.writing ≡ false → (all_pass fs run c).ok ≡ c.ok && all_named fs run
unfolding all_pass step_pass named
pass_ok [] run c w = sym (and-true c.ok)
pass_ok (f ∷ fs) run c w =
    pass_ok fs run (step_pass c f run) w ∙ ap (λ (t : Bool). (c.ok && passed t f run) && all_named fs run) w ∙ and_assoc c.ok (named f run) (all_named fs run)

pub pass_at : (fs : List FieldDescription) (run : List ℕ) (c : Pass) → c.at ≤ largest → (all_pass fs run c).at ≡ min (c.at + total fs) largest
unfolding all_pass step_pass after
pass_at [] run c h = omega arith
pass_at (f ∷ fs) run c h =
    let r = pass_at fs run (step_pass c f run) (omega arith) in
    omega (arith, r)

-- ---- what a pass writes

-- a name that was looked at is not looked at again
again : (t : Bool) (f : FieldDescription) (run : List ℕ) → named f run ≡ true → passed t f run ≡ true
unfolding named passed
again false f run e = e
again true f run e =
    let a = leb (f.name.start + f.name.len) (length run) in
    and-true a ∙ and_left a (no_zero (take f.name.len (drop f.name.start run))) e

step_written : (c : Pass) (f : FieldDescription) (run out : List ℕ) → c.writing ≡ true → named f run ≡ true → after c f ≤ length out
    → step_out c f run out ≡ write out c.at (item_bytes row_field (row_field_given f run))
unfolding step_out
step_written c f run out w n h =
    let l = le-leb (after c f) (length out) h in
    let m = again c.writing f run n in
    let u : c.writing && (passed c.writing f run && leb (after c f) (length out)) ≡ true = (λ j. w j && (m j && l j)) in
    rw u refl

-- a pass that does not write
pub nothing_written : (fs : List FieldDescription) (run out : List ℕ) (c : Pass) → c.writing ≡ false → all_out fs run out c ≡ out
unfolding all_out step_pass
nothing_written [] run out c e = refl
nothing_written (f ∷ fs) run out c e =
    ap (λ (o : List ℕ). all_out fs run o (step_pass c f run)) (sym (kept c f run out e)) ∙ nothing_written fs run out (step_pass c f run) e

-- one that does, with room for all
pub all_written : (fs : List FieldDescription) (run out : List ℕ) (c : Pass) → c.writing ≡ true → all_named fs run ≡ true → c.at + total fs ≤ length out → length out < largest
    → all_out fs run out c ≡ write out c.at (items_bytes row_field (contents fs run))
unfolding all_out step_pass after items_bytes
all_written [] run out c w e h l = refl
all_written (f ∷ fs) run out c w e h l =
    let x = item_bytes row_field (row_field_given f run) in
    let rest = items_bytes row_field (contents fs run) in
    let ok : named f run ≡ true = and_left (named f run) (all_named fs run) e in
    let n : length x ≡ f.name.len + 19 = length_field f run (inside true f run (again true f run ok)) in
    let at : after c f ≡ c.at + length x = omega (arith, n) in
    let long : length (write out c.at x) ≡ length out = length-write out c.at x in
    let later = all_written fs run (write out c.at x) (step_pass c f run) w (and_right (named f run) e) (omega (arith, long, at, n)) (omega (arith, long)) in
    ap (λ (o : List ℕ). all_out fs run o (step_pass c f run)) (step_written c f run out w ok (omega (arith, at, n)))
    ∙ later ∙ ap (λ (i : ℕ). write (write out c.at x) i rest) at ∙ write_append out c.at x rest

-- ---- the pass that writes, at its start

-- it does not ask why there is no number: a refusal told by its number and place begins the same pass
pub told_as_encoded : (r : Result ℕ Refused) → writing_pass (told r) ≡ writing_pass (encoded r)
unfolding writing_pass
told_as_encoded (Ok n) = refl
told_as_encoded (Err e) = refl
