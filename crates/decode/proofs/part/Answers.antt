-- `decode::part` meets its contract: within the buffer, or empty.
use Rattle.std.proofs.Common.{◌+◌, ◌-◌, ◌<◌, ◌≤◌, length, drop, refl, inl, inr, arith}
use Rattle.std.proofs.lemmas.List.{take_all, length-drop}
use borrow.Author.Tests.{lt-ltb, le-ltb}
use Rattle.protocol.specs.Bytes.{part_of}
use Rattle.decode.proofs.part.Goals as goal

pub returns-in_default : goal.returns-in_default
unfolding part_of
returns-in_default c = let a = c.args in
    let short : length a.buf.now < a.start = elim c.in_default.ensures.lookup.0 [ inl h ↦ h | inr h ↦ omega (arith, h) ] in
    rw (lt-ltb (length a.buf.now) (a.start + a.len) (omega (arith, short))) refl

pub returns-then-rest-len : goal.returns-then-rest-len
unfolding part_of
returns-then-rest-len c = let a = c.args in
    rw (lt-ltb (length a.buf.now) (a.start + a.len) (omega (arith, c.in-Some.ensures.lookup.0.3, c.if-rest-len.true))) refl

pub returns : goal.returns
unfolding part_of
returns c = let a = c.args in
    let k = c.in-Some.ensures.lookup.0 in
    let all : length (drop a.start a.buf.now) ≤ length a.buf.now - a.start = omega (arith, length-drop a.start a.buf.now) in
    rw (le-ltb (length a.buf.now) (a.start + a.len) (omega (arith, k.3, c.if-rest-len.false)), k.2, take_all (length a.buf.now - a.start) (drop a.start a.buf.now) all) refl
