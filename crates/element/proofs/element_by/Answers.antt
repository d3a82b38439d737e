-- `element::element_by` meets its contract: decode's own answer first, and then the element of the frame.
use Rattle.std.specs.Prelude.{ℕ, List}
use Rattle.std.proofs.Common.{◌≡◌, ap, sym, ◌∙◌, take, length-take-le}
use Rattle.std.proofs.lemmas.Result.{err_from_is_err_and}
use Rattle.protocol.specs.declared.Rules.{Rules}
use Rattle.protocol.specs.declared.refusal.Unread.TheVariants as U
use Rattle.protocol.specs.declared.refusal.Unread.{Unread}
use Rattle.protocol.specs.Decode.{decode_of}
use Rattle.protocol.specs.Decoded as D
use Rattle.protocol.specs.Elements.{element_at, element_of}
use Rattle.protocol.specs.Told.{decoded, found}
use Rattle.std.specs.Prelude.{Err}
use Rattle.element.proofs.Calls.{answered_as}
use Rattle.element.proofs.element_by.Goals as goal

unread : (rules : Rules) (s : List ℕ) (l n : ℕ) (u : Unread) → decoded (Err u) ≡ decode_of rules s → found (Err u) ≡ element_of rules s l n
unread rules s l n U.NeedMore e = answered_as rules s l D.NeedMore (sym e) n
unread rules s l n (U.Refused r) e = answered_as rules s l (D.Refused _ _) (sym e) n

pub returns-in_err-message : goal.returns-in_err-message
returns-in_err-message c =
    let p = err_from_is_err_and c.from_residual.result c.from_residual.ensures.1 in
    rw (p.1, p.2) (unread _ _ _ _ _ c.in_err-message.ensures)

pub slice_bounds-element_in-end : goal.slice_bounds-element_in-end
slice_bounds-element_in-end c = let a = c.args in
    sym (length-take-le _ _ (answered_as a.rules a.buf.now a.list (D.Record _ _) (sym c.in_ok-message.ensures)).0)

pub returns : goal.returns
returns c =
    let a = c.args in
    c.element_in.ensures ∙ ap (element_at a.rules (take c.in_ok-message.end a.buf.now) a.number) c.list_of.ensures ∙ (answered_as a.rules a.buf.now a.list (D.Record _ _) (sym c.in_ok-message.ensures)).1 _
