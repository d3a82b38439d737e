-- `row_builder::Row::shortened` meets its contract: the last column's start is the new size.
use mathlib.Core.Path.{refl, sym}
use borrow.Author.Tests.{ne_eqb}
use Rattle.row_builder.specs.Building.{drop_of}
use Rattle.row_builder.proofs.Heads.{no_row_lem, row_there}
use Rattle.row_builder.proofs.Row.shortened.Goals as goal

pub returns-in_default : goal.returns-in_default
unfolding drop_of
returns-in_default c = rw (c.at.ensures, no_row_lem _ _ (sym c.in_default.ensures)) refl

pub returns-then-self-eq0 : goal.returns-then-self-eq0
unfolding drop_of
returns-then-self-eq0 c = rw (c.at-then-self-eq0.ensures, (row_there _ _ (sym c.in-Some.ensures)).0, c.if-self-eq0.true) refl

pub returns : goal.returns
unfolding drop_of
returns c = let r = row_there _ _ (sym c.in-Some.ensures) in
    rw (r.0, ne_eqb _ _ c.if-self-eq0.false, ← r.1) refl
