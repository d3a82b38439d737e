-- That the statements shut out what they must: each useless build and each shortcut breaks the statement of its demand.
use Rattle.protocol.specs.Encode.{encoded_by}
use Rattle.laws.specs.ElementStatements.{Elements}
use Rattle.laws.specs.EncodeStatements.{encoder_with, the_encoder, Exactly, Unchanged, RoundTrip}
use Rattle.laws.specs.Shortcuts as S
use Rattle.laws.specs.Statements.{Sound, NeedMore, Refusals, the_element_call}

pub record Rejected : Type 0 where
  -- the five useless builds: encoded messages decode (demand 3); exactly the well-formed frames, their fields and byte count (demand 2)
  pub refuses_everything : RoundTrip the_encoder S.refuses_everything the_element_call → ⊥
  pub fixed_record : Sound S.fixed_record → ⊥
  pub writes_nothing : Exactly (encoder_with encoded_by S.writes_nothing) → ⊥
  pub first_for_each_number : Elements S.first_for_each_number → ⊥
  pub invented_count : Sound S.invented_count → ⊥
  -- the three shortcuts: exactly the well-formed frames (demand 2); need-more exactly where no check fails (demand 3); refused, all lent bytes are
  -- as they were (demand 1)
  pub bounded_by_the_buffer : Sound S.bounded_by_the_buffer → ⊥
  pub waits_for_the_body : NeedMore S.waits_for_the_body → ⊥
  pub header_first : Unchanged (encoder_with encoded_by S.header_first) → ⊥
  -- others. A decoder that takes a count at its word names a fault that is not the first (demand 2)
  pub count_at_its_word : Refusals S.count_at_its_word → ⊥
  pub always_waits : NeedMore S.always_waits → ⊥
  pub ignores_the_mode : Sound S.ignores_the_mode → ⊥
  pub refuses_to_write : Exactly (encoder_with S.refuses_to_write S.writes_nothing) → ⊥
  pub cuts_the_output : Unchanged (encoder_with encoded_by S.cuts_the_output) → ⊥
