-- `protocol::response::is_status` meets its contract: a byte of the arm is one of the bytes, and another is none.
use Rattle.std.proofs.Common.{rules, inl, inr}
use Rattle.protocol.specs.Bytes.{is_one_of}
use Rattle.protocol.specs.Kinds.{statuses}
use Rattle.protocol.proofs.Find.{one_of, none_of}
use Rattle.protocol.proofs.response.is_status.Goals as goal

pub returns-in-73 : goal.returns-in-73
unfolding is_one_of
returns-in-73 c = elim c.in-73.is [ inl e ↦ one_of statuses e | inr (inl e) ↦ one_of statuses e | inr (inr e) ↦ one_of statuses e ]

pub returns-in_default : goal.returns-in_default
unfolding is_one_of
returns-in_default c = none_of statuses c.args.byte (search rules)
