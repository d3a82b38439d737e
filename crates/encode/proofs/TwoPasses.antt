-- From the two passes over a row's fields to the promise of `row_description`.
use Prim.Native.Nat.{ℕ, ◌+◌, ◌-◌, ◌≤◌, ◌<◌}
use mathlib.Core.Bool.{Bool, true, false, cond, ◌&&◌, and-true, and-false}
use mathlib.Core.List.{List, []}
use mathlib.Core.Option.{Option, some, none, map}
use mathlib.Core.Path.{◌≡◌, refl, ap, ◌∙◌, sym}
use native.Mathlib.Omega.{arith}
use lib.Dec.{leb}
use lib.ListN.{length, length-append}
use Rattle.protocol.specs.Encoded as N
use Rattle.protocol.specs.Encoded.{Encoded}
use Rattle.protocol.specs.declared.data.FieldDescription.{FieldDescription}
use Rattle.protocol.specs.Bytes.{be}
use Rattle.protocol.specs.Each.{able_each, bytes_of_each}
use Rattle.protocol.specs.Encode.{Encodes}
use Rattle.protocol.specs.Fields.{most, signed_count, able, bytes, items_able, items_bytes}
use Rattle.protocol.specs.Kinds as K
use Rattle.protocol.specs.Rules.{rules_of}
use Rattle.protocol.specs.WellFormed.{Contents, body_bytes, header}
use Rattle.protocol.proofs.Basics.{none-some, and_left, and_right}
use Rattle.writers.specs.Writing.{largest, write, Wrote, WroteFrame}
use Rattle.writers.proofs.Encoding.{Measured, Judged, able_of, framed, judged, room_of, refused, finished}
use Rattle.writers.proofs.Laws.{◌then◌, nothing, length-write}
use Rattle.row_fields.specs.declared.Pass.{Pass}
use Rattle.row_fields.specs.Passes.{all_pass, all_out, answered, begun, measuring_pass, writing_pass}
use Rattle.row_fields.proofs.Whole.{contents, all_named, all_inside, total, given_is, length-contents, able_contents, length-contents_bytes, pass_ok, pass_at, nothing_written, all_written}
use Rattle.encode.specs.Given as goal

module _ (fs : List FieldDescription) (run : List ℕ) where
  -- the content of the arguments, by whether every name stands in the run
  content : (b : Bool) → Option (Contents K.row_description)
  unfolding K.row_description
  content b = map (λ xs. (xs, tt)) (cond b (some (contents fs run)) none)

  given_content : goal.row_description fs run ≡ content (all_inside fs run)
  unfolding K.row_description goal.row_description content
  given_content = rw (given_is fs run) refl

  -- 10 exactly where a name cannot be written or the fields are too many
  able_content : (b : Bool) → all_inside fs run ≡ b → able_of K.backend K.row_description (content b) ≡ (leb (length fs) (most signed_count) && all_named fs run)
  unfolding K.backend K.row_description content able_of able_each able
  able_content true e =
      let n : items_able (rules_of 1) K.row_field (contents fs run) ≡ all_named fs run =
      ap (λ (b : Bool). b && items_able (rules_of 1) K.row_field (contents fs run)) (sym e) ∙ able_contents (rules_of 1) fs run in
      rw (length-contents fs run, n) (and-true _)
  able_content false e =
      let n : all_named fs run ≡ false = sym (able_contents (rules_of 1) fs run) ∙ ap (λ (b : Bool). b && items_able (rules_of 1) K.row_field (contents fs run)) e in
      rw n (sym (and-false (leb (length fs) (most signed_count))))

  size_content : (b : Bool) → all_inside fs run ≡ b → (c : Contents K.row_description) → content b ≡ some c → length (body_bytes K.row_description c) ≡ 2 + total fs
  unfolding K.row_description content body_bytes bytes_of_each bytes be
  size_content true e c is =
      let s : (contents fs run, tt) ≡ c = cc in
      rw (← s) (omega (arith, length-append (items_bytes K.row_field (contents fs run)) [], length-contents_bytes fs run e))
  size_content false e c is = absurd (none-some is)

  pub measures : Measured K.backend K.row_description (goal.row_description fs run) K.large (leb (length fs) (most signed_count) && all_named fs run) (2 + total fs)
  unfolding K.backend K.row_description
  measures = record {
    envelope = refl;
    limit = refl;
    able = ap (able_of K.backend K.row_description) given_content ∙ able_content (all_inside fs run) refl;
    size = λ c is. size_content (all_inside fs run) refl c (sym given_content ∙ is);
  }

  module _ (out : List ℕ) where
    says : (r : Encoded) → r ≡ answered (all_pass fs run measuring_pass) (length fs) (length out) → Judged K.backend K.row_description (goal.row_description fs run) (length out) r
    says r v =
        judged measures (omega arith) (ap (λ (b : Bool). leb (length fs) (most signed_count) && b) (pass_ok fs run measuring_pass refl)) (λ _. omega (arith, pass_at fs run measuring_pass (omega arith))) v

    -- what the pass that writes leaves of a frame of n bytes
    written : (n : ℕ) → n ≡ 7 + total fs → n ≤ length out → length out < largest → all_named fs run ≡ true
        → WroteFrame K.typed K.row_description (goal.row_description fs run) out (all_out fs run (begun (N.Done n) (length fs) out) (writing_pass (N.Done n)))
    unfolding K.row_description goal.row_description content body_bytes bytes_of_each bytes begun writing_pass header be
    written n whole fits small named =
        let head = header K.typed (K.row_description).tag (n - 5) in
        let mid = write out 0 head in
        let left = begun (N.Done n) (length fs) out in
        let e : all_inside fs run ≡ true = and_left (all_inside fs run) (items_able (rules_of 1) K.row_field (contents fs run)) (able_contents (rules_of 1) fs run ∙ named) in
        let g : goal.row_description fs run ≡ content true = given_content ∙ ap content e in
        let long : length left ≡ length out = length-write mid 5 (be 2 (length fs)) ∙ length-write out 0 head in
        let h : Wrote out 0 head 5 mid 5 = record { bytes = refl; size = refl; place = refl } in
        let k : Wrote mid 5 (be 2 (length (contents fs run))) 2 left 7 = rw (length-contents fs run) (record { bytes = refl; size = refl; place = refl }) in
        let i : Wrote left 7 (items_bytes K.row_field (contents fs run)) (total fs) (all_out fs run left (writing_pass (N.Done n))) (7 + total fs) = record {
          bytes = all_written fs run left (writing_pass (N.Done n)) refl named (omega (arith, long)) (omega (arith, long));
          size = length-contents_bytes fs run e;
          place = refl;
        } in
        rw g (framed K.row_description (contents fs run, tt) h ((k then i) then nothing) (omega arith))

    pub encoded : (r : Encoded) → length out < largest → r ≡ answered (all_pass fs run measuring_pass) (length fs) (length out)
        → Encodes K.backend K.row_description (goal.row_description fs run) out r (all_out fs run (begun r (length fs) out) (writing_pass r))
    unfolding begun writing_pass
    encoded (N.Refused number place) small v =
        rw (nothing_written fs run out (writing_pass (N.Refused number place)) refl) (refused (says (N.Refused number place) v) refl)
    encoded (N.Done n) small v =
        let j = says (N.Done n) v in
        let h = room_of measures j refl in
        finished measures j refl (written n (omega (arith, h.whole)) h.fits small (and_right (leb (length fs) (most signed_count)) h.able))

    -- the calls of the encoder: c and a are what the pass that measures gives and leaves, r and b those of the answer, w and l of the pass
    -- that writes
    pub joined : {c w : Pass} {r : Encoded} {a b l : List ℕ} → length out < largest
        → c ≡ all_pass fs run measuring_pass → a ≡ all_out fs run out measuring_pass → r ≡ answered c (length fs) (length a) → b ≡ begun r (length fs) a
        → w ≡ writing_pass r → l ≡ all_out fs run b w → Encodes K.backend K.row_description (goal.row_description fs run) out r l
    joined {c} {w} {r} {a} {b} {l} small measured kept answer head second rest =
        let same : a ≡ out = kept ∙ nothing_written fs run out measuring_pass refl in
        let v : r ≡ answered (all_pass fs run measuring_pass) (length fs) (length out) = answer ∙ (λ j. answered (measured j) (length fs) (length (same j))) in
        let e : l ≡ all_out fs run (begun r (length fs) out) (writing_pass r) = rest ∙ (λ j. all_out fs run (head j) (second j)) ∙ ap (λ (x : List ℕ). all_out fs run (begun r (length fs) x) (writing_pass r)) same in
        rw e (encoded r small v)

    -- where the answer is a refusal, there is no second pass
    pub kept : {c : Pass} {number place : ℕ} {a b : List ℕ} → length out < largest
        → c ≡ all_pass fs run measuring_pass → a ≡ all_out fs run out measuring_pass
        → N.Refused number place ≡ answered c (length fs) (length a) → b ≡ begun (N.Refused number place) (length fs) a
        → Encodes K.backend K.row_description (goal.row_description fs run) out (N.Refused number place) b
    unfolding writing_pass
    kept {number = number} {place = place} {b = b} small measured same answer head =
        joined small measured same answer head refl (sym (nothing_written fs run b (writing_pass (N.Refused number place)) refl))
