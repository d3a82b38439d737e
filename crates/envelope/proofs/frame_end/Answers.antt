-- `envelope::frame_end` meets its contract: the length's checks, one after the other.
use Rattle.std.proofs.Common.{refl, arith}
use borrow.Author.Tests.{lt-ltb, le-ltb}
use Rattle.protocol.proofs.Numbers.{lower, upper}
use Rattle.envelope.specs.Steps.{end_of}
use Rattle.envelope.proofs.frame_end.Goals as goal

pub returns-then-length-gt-LONGEST : goal.returns-then-length-gt-LONGEST
unfolding end_of
returns-then-length-gt-LONGEST c = rw (c.at.ensures, upper 4 c.args.length (omega arith)) refl

pub returns-then-length-line : goal.returns-then-length-line
unfolding end_of
returns-then-length-line c = rw (c.at-then-length-line.ensures, lower 4 c.args.length (omega arith), lt-ltb _ _ c.if-length-line.true) refl

pub returns-then-line-length : goal.returns-then-line-length
unfolding end_of
returns-then-line-length c = rw (c.at-then-line-length.ensures, lower 4 c.args.length (omega arith), le-ltb _ _ c.if-length-line.false, lt-ltb _ _ c.if-line-length.true) refl

pub returns-then-have-end : goal.returns-then-have-end
unfolding end_of
returns-then-have-end c = rw (lower 4 c.args.length (omega arith), le-ltb _ _ c.if-length-line.false, le-ltb _ _ c.if-line-length.false, lt-ltb _ _ c.if-have-end.true) refl

pub returns : goal.returns
unfolding end_of
returns c = rw (lower 4 c.args.length (omega arith), le-ltb _ _ c.if-length-line.false, le-ltb _ _ c.if-line-length.false, le-ltb _ _ c.if-have-end.false) refl
