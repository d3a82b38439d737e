-- `decode::decode_by` meets its contract: each arm is a mode.
use mathlib.Core.Path.{refl, sym, ◌∙◌}
use borrow.Author.Rules.{rules}
use Rattle.protocol.specs.Decode.{header_of, header_by, decode_by, decode_of}
use Rattle.protocol.specs.Kinds.{find, frontend, backend, cancel, tls_answer, gss_answer, first_packet}
use Rattle.protocol.proofs.Find.{mode_is, no_mode}
use Rattle.decode.proofs.Choices.{in_mode}
use Rattle.decode.proofs.decode_by.Goals as goal

pub returns-in-Ok-Frontend : goal.returns-in-Ok-Frontend
unfolding find frontend backend cancel tls_answer gss_answer first_packet
returns-in-Ok-Frontend c = c.frontend.ensures ∙ in_mode _ _ frontend (mode_is c.args.rules (sym (rw c.in-Ok-Frontend.field-0-is at c.in-Ok-Frontend.ensures)))

pub returns-in-Ok-Backend : goal.returns-in-Ok-Backend
unfolding find frontend backend cancel tls_answer gss_answer first_packet
returns-in-Ok-Backend c = c.backend.ensures ∙ in_mode _ _ backend (mode_is c.args.rules (sym (rw c.in-Ok-Backend.field-0-is at c.in-Ok-Backend.ensures)))

pub returns-in-Ok-CancelRequest : goal.returns-in-Ok-CancelRequest
unfolding find frontend backend cancel tls_answer gss_answer first_packet
returns-in-Ok-CancelRequest c = c.cancel.ensures ∙ in_mode _ _ cancel (mode_is c.args.rules (sym (rw c.in-Ok-CancelRequest.field-0-is at c.in-Ok-CancelRequest.ensures)))

pub returns-in-Ok-TlsAnswer : goal.returns-in-Ok-TlsAnswer
unfolding find frontend backend cancel tls_answer gss_answer first_packet
returns-in-Ok-TlsAnswer c = c.tls_answer.ensures ∙ in_mode _ _ tls_answer (mode_is c.args.rules (sym (rw c.in-Ok-TlsAnswer.field-0-is at c.in-Ok-TlsAnswer.ensures)))

pub returns-in-Ok-GssAnswer : goal.returns-in-Ok-GssAnswer
unfolding find frontend backend cancel tls_answer gss_answer first_packet
returns-in-Ok-GssAnswer c = c.gss_answer.ensures ∙ in_mode _ _ gss_answer (mode_is c.args.rules (sym (rw c.in-Ok-GssAnswer.field-0-is at c.in-Ok-GssAnswer.ensures)))

pub returns-in-Ok-FirstPacket : goal.returns-in-Ok-FirstPacket
unfolding find frontend backend cancel tls_answer gss_answer first_packet
returns-in-Ok-FirstPacket c = c.first_packet.ensures ∙ in_mode _ _ first_packet (mode_is c.args.rules (sym (rw c.in-Ok-FirstPacket.field-0-is at c.in-Ok-FirstPacket.ensures)))

pub returns-in-Err : goal.returns-in-Err
unfolding decode_of decode_by header_of header_by frontend backend cancel tls_answer gss_answer first_packet
returns-in-Err c = let high = c.in-Err.ensures in rw (c.at.ensures, no_mode c.args.rules (search rules)) refl
