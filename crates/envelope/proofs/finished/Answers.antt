-- `envelope::finished` meets its contract.
use Rattle.std.proofs.Common.{refl}
use borrow.Author.Tests.{lt-ltb, le-ltb}
use Rattle.protocol.specs.Decode.{closed, decoded_by}
use Rattle.envelope.proofs.finished.Goals as goal

pub returns-then-at-frame : goal.returns-then-at-frame
unfolding closed decoded_by
returns-then-at-frame c = rw (c.at.ensures, lt-ltb _ _ c.if-at-frame.true) refl

pub returns : goal.returns
unfolding closed decoded_by
returns c = rw (le-ltb _ _ c.if-at-frame.false) refl
