-- What a step of the listing says: whole exactly where no byte is left, else what decoding says of the bytes from there on.
use Prim.Native.Nat.{ℕ, ◌≤◌, ◌<◌}
use mathlib.Core.Bool.{Bool, true, false, cond}
use mathlib.Core.List.{List}
use mathlib.Core.Logic.{inl, inr}
use mathlib.Core.Option.{Option, some, none}
use mathlib.Core.Path.{◌≡◌, refl, ap, sym, ◌∙◌}
use native.Mathlib.Omega.{arith}
use borrow.Author.Tests.{leb-true, leb-false}
use lib.Dec.{leb}
use lib.ListN.{length, drop}
use Rattle.protocol.specs.Decoded as D
use Rattle.protocol.specs.Decoded.{Decoded}
use Rattle.protocol.specs.declared.Message.{Message}
use Rattle.protocol.specs.declared.Rules.{Rules}
use Rattle.protocol.specs.Answers.{Answer, success, needs_more, refusal, of_decoded}
use Rattle.protocol.specs.Decode.{decode_of}
use Rattle.protocol.specs.Stream as Stream
use Rattle.protocol.specs.Stream.{whole, need_more, refused, frame, stop, step_by, step_at}
use Rattle.protocol.proofs.Basics.{zero_one}
use Rattle.listing.specs.Listing.{of_step, step_of}
use Rattle.listing.specs.Step as S
use Rattle.listing.specs.Step.{Step}
use Rattle.laws.specs.ListingStatements.{StepSays, Steps, StepsNumbered}
use Rattle.laws.specs.Statements.{the_decoder, GivesNothing}
use Rattle.laws.proofs.Answered.{not_success, refusal_is, needs_refusal}
use Rattle.laws.proofs.Encoding.{yes, no}
use Rattle.laws.proofs.Numbered.{success_nothing, needs_nothing, refusal_nothing, numbered}
use Rattle.laws.proofs.Numbers.{bytes_drop}

-- ---- answers that differ

success_is : {X : Type 0} {x y : X} {n m : ℕ} → success x n ≡ success y m → (some x ≡ some y) × (n ≡ m)
success_is {X} e = (ap (λ (a : Answer X). a.value) e, ap (λ (a : Answer X). a.consumed) e)

none-some : {X : Type 0} {x : X} {n m : ℕ} → success {X = Option X} none n ≡ success (some x) m → ⊥
none-some e = let v = (success_is e).0 in zero_one cc

-- ---- a step as an answer, by what it is of a stream

streamed : ℕ → Stream.Step → Answer (Option Message)
streamed p (frame m n) = success (some m) n
streamed p (stop whole) = success none 0
streamed p (stop need_more) = needs_more
streamed p (stop (refused number)) = refusal number p

is_streamed : (p : ℕ) (step : Step) → of_step p step ≡ streamed p (step_of step)
unfolding of_step streamed
is_streamed p (S.Frame m n) = refl
is_streamed p S.Whole = refl
is_streamed p S.NeedMore = refl
is_streamed p (S.Refused number) = refl

module _ (rules : Rules) (s : List ℕ) (p : ℕ) (step : Step) where
  abbrev decoded : Answer Message
  decoded = of_decoded (decode_of rules (drop p s))

  at_end_lem : length s ≤ p → of_step p step ≡ success none 0 → StepSays the_decoder rules s p step
  at_end_lem l e = record {
    whole = yes e l;
    frame = λ m n. no (λ h. none-some (sym e ∙ h)) (λ h. omega (arith, h.0));
    need_more = no (λ h. not_success (inl (sym e ∙ h))) (λ h. omega (arith, h.0));
    refused = λ number place. no (λ h. not_success (inr (number, place, sym e ∙ h))) (λ h. omega (arith, h.1));
  }

  at_frame : p < length s → (m : Message) (n : ℕ) → decoded ≡ success m n → of_step p step ≡ success (some m) n → StepSays the_decoder rules s p step
  at_frame l m n d e = record {
    whole = no (λ h. none-some (sym h ∙ e)) (λ h. omega (arith, h));
    frame = λ x k. (
      λ h. let q = success_is (sym e ∙ h) in let same : m ≡ x = let v = q.0 in cc in (l, d ∙ rw (same, q.1) refl),
      λ h. let q = success_is (sym d ∙ h.1) in let same : m ≡ x = let v = q.0 in cc in e ∙ rw (same, q.1) refl,
    );
    need_more = no (λ h. not_success (inl (sym e ∙ h))) (λ h. not_success (inl (sym d ∙ h.1)));
    refused = λ number place. no (λ h. not_success (inr (number, place, sym e ∙ h))) (λ h. not_success (inr (number, h.2.0, sym d ∙ h.2.1)));
  }

  at_wait : p < length s → decoded ≡ needs_more → of_step p step ≡ needs_more → StepSays the_decoder rules s p step
  at_wait l d e = record {
    whole = no (λ h. not_success (inl (sym h ∙ e))) (λ h. omega (arith, h));
    frame = λ m n. no (λ h. not_success (inl (sym h ∙ e))) (λ h. not_success (inl (sym h.1 ∙ d)));
    need_more = yes e (l, d);
    refused = λ number place. no (λ h. needs_refusal (sym e ∙ h)) (λ h. needs_refusal (sym d ∙ h.2.1));
  }

  at-refusal : p < length s → (c at : ℕ) → decoded ≡ refusal c at → of_step p step ≡ refusal c p → StepSays the_decoder rules s p step
  at-refusal l c at d e = record {
    whole = no (λ h. not_success (inr (c, p, sym h ∙ e))) (λ h. omega (arith, h));
    frame = λ m n. no (λ h. not_success (inr (c, p, sym h ∙ e))) (λ h. not_success (inr (c, at, sym h.1 ∙ d)));
    need_more = no (λ h. needs_refusal (sym h ∙ e)) (λ h. needs_refusal (sym h.1 ∙ d));
    refused = λ number place. (
      λ h. let q = refusal_is (sym e ∙ h) in (sym q.1, l, (at, d ∙ rw q.0 refl)),
      λ h. let q = refusal_is (sym d ∙ h.2.1) in e ∙ rw (q.0, h.0) refl,
    );
  }

  by_decoding : p < length s → (d : Decoded) → decode_of rules (drop p s) ≡ d → of_step p step ≡ streamed p (step_by d) → StepSays the_decoder rules s p step
  unfolding step_by of_decoded streamed
  by_decoding l (D.Record m n) d e = at_frame l m n (ap of_decoded d) e
  by_decoding l D.NeedMore d e = at_wait l (ap of_decoded d) e
  by_decoding l (D.Refused number place) d e = at-refusal l number place (ap of_decoded d) e

  by_room : (t : Bool) → leb (length s) p ≡ t → of_step p step ≡ streamed p (cond t (stop whole) (step_by (decode_of rules (drop p s)))) → StepSays the_decoder rules s p step
  unfolding streamed
  by_room true t e = at_end_lem (leb-true _ _ t) e
  by_room false t e = by_decoding (leb-false _ _ t) (decode_of rules (drop p s)) refl e

pub steps : Steps the_decoder
unfolding step_at
steps rules s p step h = by_room rules s p step (leb (length s) p) refl (is_streamed p step ∙ ap (streamed p) h)

-- ---- the number of a step that is refused

step_nothing : (p : ℕ) (step : Step) → GivesNothing (of_step p step)
unfolding of_step
step_nothing p (S.Frame m n) = success_nothing
step_nothing p S.Whole = success_nothing
step_nothing p S.NeedMore = needs_nothing
step_nothing p (S.Refused number) = refusal_nothing number p

pub steps_numbered : StepsNumbered
steps_numbered rules s p step b e = record {
  number = λ number place h.
      let w = (((steps rules s p step e).refused number place).0 h).2 in
      (numbered rules (drop p s) (bytes_drop p s b)).number number w.0 w.1;
  nothing = step_nothing p step;
}
