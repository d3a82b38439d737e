-- What an element call answers, by what decoding answers.
use Prim.Native.Nat.{ℕ, ◌≤◌}
use mathlib.Core.Bool.{Bool, true, false}
use mathlib.Core.List.{List}
use mathlib.Core.Path.{◌≡◌, refl, ap, ◌∙◌}
use lib.Dec.{ltb}
use lib.ListN.{length, take}
use Rattle.std.specs.Prelude.{Option as Maybe}
use Rattle.protocol.specs.Decoded as D
use Rattle.protocol.specs.Decoded.{Decoded}
use Rattle.protocol.specs.Found as F
use Rattle.protocol.specs.declared.List.{List as ListSlot}
use Rattle.protocol.specs.declared.Rules.{Rules}
use Rattle.protocol.specs.Decode.{Header, more, refuse, framed, header_of, closed, decoded_by, decode_by, decode_of}
use Rattle.protocol.specs.Each.{Each}
use Rattle.protocol.specs.Elements.{list_in, list_of, found_by, element_at, element_in, element_of}
use Rattle.protocol.specs.Fields.{Slot}
use Rattle.protocol.specs.Kinds.{Kind}
use Rattle.protocol.specs.Views.{View}
use Rattle.protocol.specs.Reading.{Read, got, bad, and_then, read, read_each}
use Rattle.protocol.proofs.Framed.{framed_is, framed_ends}
use Rattle.protocol.proofs.Find.{told_row}
use Rattle.protocol.proofs.Views.{Viewed, viewed}
use Rattle.element.specs.declared.list.Sort.{Sort}
use Rattle.element.specs.OneList.{listed_of, Fits}
use Rattle.element.proofs.Fitting.{EndedVary, ended_vary, read_fits, list_fits}

module _ (rules : Rules) (s : List ℕ) (l : ℕ) where
  abbrev pub Answered : Decoded → Type 0
  Answered (D.Record m end) = (end ≤ length s) × ((n : ℕ) → element_at rules (take end s) n (list_of m l) ≡ element_of rules s l n) × ((r : Maybe (Sort × ListSlot)) → listed_of r ≡ list_of m l → Fits (take end s) r)
  Answered D.NeedMore = (n : ℕ) → F.NeedMore ≡ element_of rules s l n
  Answered (D.Refused number place) = (n : ℕ) → F.Refused number place ≡ element_of rules s l n

  module _ (k : Kind) (a b : ℕ) (e : header_of rules s ≡ framed k a b) where
    by_end : (v : Each Slot k.body) (q : ℕ) → read_each (read rules) k.body (take b s) a ≡ got v q → (t : Bool) → ltb q (length (take b s)) ≡ t → Answered (decoded_by (closed (take b s) q (k.message v)) b)
    unfolding element_of element_in found_by closed decoded_by list_of
    by_end v q r true t = rw t (λ n. rw (e, r, t) refl)
    by_end v q r false t =
        let w = framed_is rules s k a b e in
        let is = told_row Viewed viewed rules _ w.known w.tag v in
        let same : list_of (k.message v) l ≡ list_in k.body l v = ap (λ (x : View). list_in x.kind.body l x.slots) is in
        let vary = told_row (λ (k : Kind). EndedVary k.body) ended_vary rules _ w.known w.tag in
        rw t (
          (framed_ends rules s k a b w).1,
          λ n. rw (e, r, t) (ap (element_at rules (take b s) n) same),
          λ x h. list_fits (take b s) k.body l v vary (read_fits (take b s) rules k.body l a q v r) x (h ∙ same),
        )

    by_body : (r : Read (Each Slot k.body)) → read_each (read rules) k.body (take b s) a ≡ r → Answered (decoded_by (and_then r (λ v q. closed (take b s) q (k.message v))) b)
    unfolding element_of element_in found_by decoded_by
    by_body (got v q) r = by_end v q r (ltb q (length (take b s))) refl
    by_body (bad number place) r = λ n. rw (e, r) refl

  by_header : (h : Header) → header_of rules s ≡ h → Answered (decode_by rules s h)
  unfolding element_of element_in decode_by
  by_header more e = λ n. rw e refl
  by_header (refuse number place) e = λ n. rw e refl
  by_header (framed k a b) e = by_body k a b e (read_each (read rules) k.body (take b s) a) refl

  pub answered : Answered (decode_of rules s)
  unfolding decode_of
  answered = by_header (header_of rules s) refl

  pub answered_as : (d : Decoded) → decode_of rules s ≡ d → Answered d
  answered_as d e = rw (← e) answered
