-- Whatever meets the statements of a page gives the same answers: they leave one decoder, one element call and one encoder.
use Prim.Native.Nat.{ℕ}
use mathlib.Core.Bool.{true, false≢true}
use mathlib.Core.List.{List, [], ◌∷◌, ◌++◌}
use mathlib.Core.Logic.{inr}
use mathlib.Core.Option.{Option, some, none}
use mathlib.Core.Path.{◌≡◌, refl, ap, sym, ◌∙◌}
use lib.ListN.{take, drop, take-append-drop}
use Rattle.protocol.specs.Decoded as D
use Rattle.protocol.specs.Decoded.{Decoded}
use Rattle.protocol.specs.declared.Element.{Element}
use Rattle.protocol.specs.Encoded.{Encoded}
use Rattle.protocol.specs.Found.{Found as ElementAnswer}
use Rattle.protocol.specs.declared.Message.{Message}
use Rattle.protocol.specs.declared.Rules.{Rules}
use Rattle.protocol.specs.Answers.{Answer, success, needs_more, refusal, of_decoded, of_element, of_encoded}
use Rattle.protocol.specs.Bytes.{Bytes, is_one_of}
use Rattle.protocol.specs.Kinds.{Kind, Mode}
use Rattle.protocol.specs.WellFormed.{Contents, body_start, frame}
use Rattle.laws.specs.ElementStatements.{Elements, element_numbers, ElementsNumbered, OneElementCall}
use Rattle.laws.specs.EncodeStatements.{Outcome, Encoder, the_encoder, Exactly, Unchanged, encode_numbers, EncodesNumbered, OneEncoder}
use Rattle.laws.specs.Items.{Found, found, Answers}
use Rattle.laws.specs.Statements.{ElementCall, Accepted, IsNumbered, decode_numbers, OneDecoder, the_decoder, the_element_call}
use Rattle.laws.proofs.Answered.{element_is, element_refused, element_needs, element_consumes, refusal_is, not_success}
use Rattle.laws.proofs.ElementCalls.{refused_first, elements_need_more}
use Rattle.laws.proofs.Elements.{elements}
use Rattle.laws.proofs.Encoding.{Says, ten, four, nine, done, encoder_says, exactly, unchanged}
use Rattle.laws.proofs.NeedMore.{need_more}
use Rattle.laws.proofs.Numbered.{element_nothing, encoded_nothing, one_of_more, numbered}
use Rattle.laws.proofs.Refusals.{refusals}
use Rattle.laws.proofs.Sound.{sound}

-- ---- the three answers of decoding

data Case (rules : Rules) (s : List ℕ) : Type 0 where
  accepts : (r : Message) (n : ℕ) → of_decoded (the_decoder rules s) ≡ success r n → Accepted rules s r n → Case rules s
  waits : of_decoded (the_decoder rules s) ≡ needs_more → Case rules s
  refuses : (number place : ℕ) → of_decoded (the_decoder rules s) ≡ refusal number place → Case rules s

case_by : (rules : Rules) (s : List ℕ) → Bytes s → (d : Decoded) → the_decoder rules s ≡ d → Case rules s
unfolding of_decoded
case_by rules s b (D.Record r n) e = let is = ap of_decoded e in accepts r n is (sound rules s r n b is)
case_by rules s b D.NeedMore e = waits (ap of_decoded e)
case_by rules s b (D.Refused number place) e = refuses number place (ap of_decoded e)

case : (rules : Rules) (s : List ℕ) → Bytes s → Case rules s
case rules s b = case_by rules s b (the_decoder rules s) refl

-- a frame that is accepted stands at the buffer's start
at_start : {rules : Rules} {s : List ℕ} {r : Message} {n : ℕ} (a : Accepted rules s r n) → frame a.mode.envelope a.kind a.content ++ drop n s ≡ s
at_start {s = s} {n = n} a = rw (← a.bytes) (take-append-drop n s)

-- ---- decoding

pub one_decoder : OneDecoder the_decoder
one_decoder other complete waiting refusing rules s b = by (case rules s b)
  where
    by : Case rules s → of_decoded (other rules s) ≡ of_decoded (the_decoder rules s)
    by (accepts r n e a) = rw (at_start a, ← a.is, ← a.size) at (complete rules a.mode a.kind a.content (drop n s) a.well_formed) ∙ sym e
    by (waits e) = (waiting rules s).1 ((need_more rules s).0 e) ∙ sym e
    by (refuses number place e) = (refusing rules s number place b).1 ((refusals rules s number place b).0 e) ∙ sym e

-- ---- element calls

-- two answers of one item are one
pub one_answer : (s : List ℕ) (x : Option Found) (a b : ElementAnswer) → Answers s x a → Answers s x b → a ≡ b
one_answer s none a b p q = element_refused p ∙ sym (element_refused q)
one_answer s (some x) a b p q = element_is p.is ∙ sym (element_is q.is)

-- what an element call answers of a frame that is accepted
accepted_element : (call : ElementCall) → Elements call → {rules : Rules} {s : List ℕ} {r : Message} {m : ℕ} (a : Accepted rules s r m) (l n : ℕ) → Answers s (found a.kind.body (body_start a.mode.envelope) a.content l n) (call rules s l n)
accepted_element call h {rules = rules} {s = s} {m = m} a l n = rw (at_start a) at (h rules a.mode a.kind a.content (drop m s) l n a.well_formed)

pub one_element_call : OneElementCall the_decoder the_element_call
one_element_call other items first waiting rules s l n b = by (case rules s b)
  where
    by : Case rules s → of_element (other rules s l n) ≡ of_element (the_element_call rules s l n)
    by (accepts r m e a) =
        let x = found a.kind.body (body_start a.mode.envelope) a.content l n in
        ap of_element (one_answer s x (other rules s l n) (the_element_call rules s l n) (accepted_element other items a l n) (accepted_element the_element_call elements a l n))
    by (waits e) =
        let w = ap (λ (a : Answer Message). a.need_more) e in
        element_needs _ (waiting rules s l n ∙ w) ∙ sym (element_needs _ (elements_need_more rules s l n ∙ w))
    by (refuses number place e) = first rules s l n number place e ∙ sym (refused_first rules s l n number place e)

-- ---- the numbers of an element call's refusals

found_number : (s : List ℕ) (x : Option Found) (e : ElementAnswer) → Answers s x e → (number place : ℕ) → of_element e ≡ refusal number place → is_one_of number element_numbers ≡ true
unfolding is_one_of
found_number s none e a number place h = let q : 11 ≡ number = (refusal_is (sym a ∙ h)).0 in rw (← q) refl
found_number s (some x) e a number place h = absurd (not_success (inr (number, place, sym a.is ∙ h)))

case_number : (rules : Rules) (s : List ℕ) (l n : ℕ) → Bytes s → Case rules s → (number place : ℕ) → of_element (the_element_call rules s l n) ≡ refusal number place → is_one_of number element_numbers ≡ true
case_number rules s l n b (accepts r m e a) number place h = found_number s (found a.kind.body (body_start a.mode.envelope) a.content l n) _ (accepted_element the_element_call elements a l n) number place h
case_number rules s l n b (waits e) number place h =
    let w = elements_need_more rules s l n ∙ ap (λ (a : Answer Message). a.need_more) e in
    absurd (false≢true (sym (ap (λ (a : Answer Element). a.need_more) h) ∙ w))
case_number rules s l n b (refuses c p e) number place h =
    let q : c ≡ number = (refusal_is (sym (refused_first rules s l n c p e) ∙ h)).0 in
    rw (← q) (one_of_more c decode_numbers (11 ∷ []) ((numbered rules s b).number c p e))

pub elements_numbered : ElementsNumbered the_element_call
elements_numbered rules s l n b = (record { number = case_number rules s l n b (case rules s b); nothing = element_nothing _ }, element_consumes _)

-- ---- encoders

pub says_number : (r : Encoded) → Says r → IsNumbered encode_numbers (of_encoded r) × ((of_encoded r).place ≡ 0)
unfolding of_encoded is_one_of
says_number r ten = (record { number = λ number place h. let q : 10 ≡ number = (refusal_is h).0 in rw (← q) refl; nothing = encoded_nothing r }, refl)
says_number r four = (record { number = λ number place h. let q : 4 ≡ number = (refusal_is h).0 in rw (← q) refl; nothing = encoded_nothing r }, refl)
says_number r nine = (record { number = λ number place h. let q : 9 ≡ number = (refusal_is h).0 in rw (← q) refl; nothing = encoded_nothing r }, refl)
says_number r (done n) = (record { number = λ number place h. absurd (not_success (inr (number, place, h))); nothing = encoded_nothing r }, refl)

pub encodes_numbered : EncodesNumbered the_encoder
encodes_numbered m k given out = says_number _ (encoder_says m k given out)

-- what is written is the frame, and behind it all is as it was
same_output : (n : ℕ) (x y : List ℕ) → take n x ≡ take n y → drop n x ≡ drop n y → x ≡ y
same_output n x y t d = sym (take-append-drop n x) ∙ rw (t, d) (take-append-drop n y)

module _ (other : Encoder) (ex : Exactly other) (un : Unchanged other) (m : Mode) (k : Kind) (given : Option (Contents k)) (out : List ℕ) where
  abbrev yours : Outcome
  yours = other m k given out

  abbrev mine : Outcome
  mine = the_encoder m k given out

  Same : Type 0
  Same = (of_encoded yours.answer ≡ of_encoded mine.answer) × (yours.output ≡ mine.output)

  same_refusal : (number : ℕ) → of_encoded mine.answer ≡ refusal number 0 → of_encoded yours.answer ≡ refusal number 0 → Same
  unfolding Same
  same_refusal number e f = (f ∙ sym e, (un m k given out).refused (inr (number, 0, f)) ∙ sym ((unchanged m k given out).refused (inr (number, 0, e))))

  same_done : (n : ℕ) → of_encoded mine.answer ≡ success tt n → Same
  unfolding Same
  same_done n e =
      let w = exactly m k given out in
      let v = ex m k given out in
      let f = (v.done n).1 ((w.done n).0 e) in
      let c = ((w.done n).0 e).0.0 in
      (f ∙ sym e, same_output n _ _ (v.writes n c.0 c.1 f ∙ sym (w.writes n c.0 c.1 e)) ((un m k given out).later n f ∙ sym ((unchanged m k given out).later n e)))

  same_by : (r : Encoded) → Says r → mine.answer ≡ r → Same
  unfolding of_encoded
  same_by r ten e = let is = ap of_encoded e in same_refusal 10 is ((ex m k given out).ten.1 ((exactly m k given out).ten.0 is))
  same_by r four e = let is = ap of_encoded e in same_refusal 4 is ((ex m k given out).four.1 ((exactly m k given out).four.0 is))
  same_by r nine e = let is = ap of_encoded e in same_refusal 9 is ((ex m k given out).nine.1 ((exactly m k given out).nine.0 is))
  same_by r (done n) e = same_done n (ap of_encoded e)

pub one_encoder : OneEncoder the_encoder
unfolding Same
one_encoder other ex un m k given out = same_by other ex un m k given out _ (encoder_says m k given out) refl
