-- Headers: their checks in one form for each envelope, that decoding waits exactly where they do, and that bytes which come after them change
-- nothing.
use Prim.Native.Nat.{ℕ, zero, suc, ◌+◌, ◌≤◌}
use mathlib.Core.Bool.{Bool, true, false, cond}
use mathlib.Core.List.{List, ◌++◌}
use mathlib.Core.Logic.{◌↔◌}
use mathlib.Core.Option.{Option, some, none}
use mathlib.Core.Path.{◌≡◌, refl, ap, sym, ◌∙◌}
use native.Mathlib.Omega.{arith}
use borrow.Author.Tests.{ltb-false, le-ltb}
use lib.Dec.{ltb, eqb, eqb-suc-zero}
use lib.IntN.{ℤ, pos, negsuc}
use lib.ListN.{length, take, length-append}
use lib.Seq.{take-append_seam}
use Rattle.protocol.specs.declared.Message.{Message}
use Rattle.protocol.specs.declared.Rules.{Rules}
use Rattle.protocol.specs.Answers.{Answer, needs_more, of_decoded}
use Rattle.protocol.specs.Bytes.{number_at}
use Rattle.protocol.specs.Decode.{Header, more, refuse, framed, length_by, typed_by, untyped_by, bare_by, tag_at, header_in, header_by, header_of, body_of, decoded_by, decode_by, decode_of}
use Rattle.protocol.specs.Kinds.{Envelope, typed, untyped, bare, Kind, Mode, mode_of, kind_in}
use Rattle.protocol.specs.Reading.{Read, got, bad}
use Rattle.protocol.proofs.Numbers.{number_take}

-- ---- one form for each envelope

-- where the tag ends
abbrev pub tag_end : Envelope → ℕ
tag_end typed = 1
tag_end untyped = 8
tag_end bare = 1

-- what is checked once the tag is there
abbrev pub after_tag : Envelope → Option Kind → List ℕ → Header
after_tag typed kind s = typed_by kind s
after_tag untyped kind s = untyped_by kind s
after_tag bare kind s = bare_by kind

-- no byte is there exactly if fewer than one is
empty_is : (n : ℕ) → eqb n 0 ≡ ltb n 1
empty_is zero = refl
empty_is (suc n) = eqb-suc-zero n ∙ sym (le-ltb (suc n) 1 (omega arith))

-- a header waits for its tag, and then does the checks after it
pub header_is : (e : Envelope) (kind : Option Kind) (s : List ℕ) → header_in e kind s ≡ cond (ltb (length s) (tag_end e)) more (after_tag e kind s)
unfolding header_in
header_is typed kind s = rw (empty_is (length s)) refl
header_is untyped kind s = refl
header_is bare kind s = rw (empty_is (length s)) refl

-- ---- when decoding waits

-- what is read of a body is an answer
pub body_answers : (b : Read Message) (end : ℕ) → (of_decoded (decoded_by b end)).need_more ≡ false
unfolding decoded_by of_decoded
body_answers (got m next) end = refl
body_answers (bad number place) end = refl

-- so only the header `more` makes decoding wait
waits_by : (rules : Rules) (s : List ℕ) (h : Header) → (of_decoded (decode_by rules s h)).need_more ≡ true → h ≡ more
unfolding decode_by of_decoded
waits_by rules s more e = refl
waits_by rules s (refuse number place) e = cc
waits_by rules s (framed k start end) e = cc (body_answers (body_of rules k (take end s) start) end)

-- decoding waits exactly where its header does
pub decoding_waits : (rules : Rules) (s : List ℕ) → (of_decoded (decode_of rules s) ≡ needs_more) ↔ (header_of rules s ≡ more)
unfolding decode_of decode_by of_decoded
decoding_waits rules s = (λ e. waits_by rules s (header_of rules s) (ap (λ (a : Answer Message). a.need_more) e), λ e. rw e refl)

-- ---- bytes that come after s

-- a number whose bytes are there stays
pub number_append : (w p : ℕ) (s t : List ℕ) → p + w ≤ length s → number_at w (s ++ t) p ≡ number_at w s p
number_append w p s t h = rw (take-append_seam s t) at (sym (number_take w p (length s) (s ++ t) h))

-- a header is given again, unless it waits
abbrev Again : Header → Header → Type 0
Again h new = (h ≡ more → ⊥) → new ≡ h

-- also behind a check that does not look at the bytes
again_else : (t : Bool) (a x y : Header) → Again x y → Again (cond t a x) (cond t a y)
again_else true a x y f w = refl
again_else false a x y f w = f w

module _ (s t : List ℕ) where
  -- also behind a check that waits for n bytes: those are there
  again_after : (n : ℕ) (x y : Header) (u : Bool) → ltb (length s) n ≡ u → (n ≤ length s → Again x y) → Again (cond u more x) (cond (ltb (length (s ++ t)) n) more y)
  again_after n x y true e f w = absurd (w refl)
  again_after n x y false e f w =
      let l = ltb-false (length s) n e in
      rw (le-ltb (length (s ++ t)) n (simp length-append (omega arith))) (f l w)

  -- the checks of a length
  length_again : (k : Kind) (p start : ℕ) (z : ℤ) → Again (length_by k p start s z) (length_by k p start (s ++ t) z)
  unfolding length_by
  length_again k p start (negsuc n) = λ _. refl
  length_again k p start (pos n) =
      again_else (ltb n k.smallest) _ _ _ (again_else (ltb k.limit n) _ _ _ (again_after (p + n) _ _ _ refl (λ _ _. refl)))

  -- the tag
  tag_again : (e : Envelope) → tag_end e ≤ length s → tag_at e (s ++ t) ≡ tag_at e s
  tag_again typed l = number_append 1 0 s t l
  tag_again untyped l = number_append 4 4 s t l
  tag_again bare l = number_append 1 0 s t l

  -- the checks after it
  after_again : (e : Envelope) (kind : Option Kind) → tag_end e ≤ length s → Again (after_tag e kind s) (after_tag e kind (s ++ t))
  unfolding typed_by untyped_by bare_by
  after_again typed none l = λ _. refl
  after_again typed (some k) l = again_after 5 _ _ _ refl (λ h. rw (number_append 4 1 s t h) (length_again k 1 5 _))
  after_again untyped none l = λ _. refl
  after_again untyped (some k) l = rw (number_append 4 0 s t (omega arith)) (length_again k 0 8 _)
  after_again bare kind l = λ _. refl

  -- the header in a mode, if there is one
  mode_again : (o : Option Mode) → Again (header_by o s) (header_by o (s ++ t))
  unfolding header_by
  mode_again none = λ _. refl
  mode_again (some m) =
      let e = m.envelope in
      rw (header_is e (kind_in m (tag_at e s)) s, header_is e (kind_in m (tag_at e (s ++ t))) (s ++ t))
      (again_after (tag_end e) _ _ _ refl (λ l. rw (tag_again e l) (after_again e _ l)))

  -- a header that does not wait is the same with more bytes after it
  pub header_again : (rules : Rules) → (header_of rules s ≡ more → ⊥) → header_of rules (s ++ t) ≡ header_of rules s
  unfolding header_of
  header_again rules = mode_again (mode_of rules)
