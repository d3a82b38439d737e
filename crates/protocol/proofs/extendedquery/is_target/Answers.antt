-- `protocol::extendedquery::is_target` meets its contract: a byte of the arm is one of the bytes, and another is none.
use Rattle.std.proofs.Common.{rules, inl, inr}
use Rattle.protocol.specs.Bytes.{is_one_of}
use Rattle.protocol.specs.Kinds.{targets}
use Rattle.protocol.proofs.Find.{one_of, none_of}
use Rattle.protocol.proofs.extendedquery.is_target.Goals as goal

pub returns-in-83 : goal.returns-in-83
unfolding is_one_of
returns-in-83 c = elim c.in-83.is [ inl e ↦ one_of targets e | inr e ↦ one_of targets e ]

pub returns-in_default : goal.returns-in_default
unfolding is_one_of
returns-in_default c = none_of targets c.args.byte (search rules)
