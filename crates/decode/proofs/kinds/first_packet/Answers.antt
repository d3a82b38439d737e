-- `decode::kinds::first_packet` meets its contract: each arm is a row of the mode's table, in the table's order.
use mathlib.Core.Path.{sym, ◌∙◌}
use native.Mathlib.Omega.{arith}
use borrow.Author.Rules.{rules}
use Rattle.protocol.specs.Kinds.{find, kind_in, first_packet, the_table}
use Rattle.protocol.proofs.Numbers.{whole, not_whole}
use Rattle.decode.proofs.Choices.{cut, arm, unknown}
use Rattle.decode.proofs.kinds.first_packet.Goals as goal

pub returns-in_default : goal.returns-in_default
unfolding the_table
returns-in_default c = let s = c.args.buf.now in
    cut _ s first_packet (not_whole 4 s 4 _ _ (sym c.in_default.ensures))

pub returns-in-196608 : goal.returns-in-196608
unfolding find kind_in the_table
returns-in-196608 c =
    let tag = whole 4 _ _ _ _ (sym c.in-Some.ensures) in
    c.startup.ensures ∙ arm _ _ first_packet tag.is c.in-196608.is

pub returns-in-80877103 : goal.returns-in-80877103
unfolding find kind_in the_table
returns-in-80877103 c =
    let tag = whole 4 _ _ _ _ (sym c.in-Some.ensures) in
    c.ssl_request.ensures ∙ arm _ _ first_packet tag.is c.in-80877103.is

pub returns-in-80877104 : goal.returns-in-80877104
unfolding find kind_in the_table
returns-in-80877104 c =
    let tag = whole 4 _ _ _ _ (sym c.in-Some.ensures) in
    c.gss_enc_request.ensures ∙ arm _ _ first_packet tag.is c.in-80877104.is

pub returns-in-80877102 : goal.returns-in-80877102
unfolding find kind_in the_table
returns-in-80877102 c =
    let tag = whole 4 _ _ _ _ (sym c.in-Some.ensures) in
    c.cancel_request.ensures ∙ arm _ _ first_packet tag.is c.in-80877102.is

pub returns-in_default-word : goal.returns-in_default-word
unfolding find kind_in the_table
returns-in_default-word c =
    let tag = whole 4 _ _ _ _ (sym c.in-Some.ensures) in
    rw c.at.ensures (unknown _ _ first_packet tag.is (omega (arith, tag.fits, tag.next)) (search rules))
