-- Bodies that several kinds have: their fields, and what is made of them for each kind.
use Rattle.std.specs.Prelude.{List, [], ◌∷◌}
use Rattle.protocol.specs.declared.Message.{Message}
use Rattle.protocol.specs.Each.{Each}
use Rattle.protocol.specs.Fields.{signed_count, Field, Slot}
use Rattle.protocol.specs.Kinds.{target, string, i8, formats, close, describe, copy_in_response, copy_out_response, copy_both_response}

-- a target byte and a name: Close and Describe
abbrev pub aim_fields : List Field
aim_fields = target ∷ string ∷ []

abbrev pub close_message : Each Slot aim_fields → Message
unfolding close
close_message = close.message

abbrev pub describe_message : Each Slot aim_fields → Message
unfolding describe
describe_message = describe.message

-- a format and the columns' formats: the three copy responses
abbrev pub copy_fields : List Field
copy_fields = i8 ∷ formats signed_count ∷ []

abbrev pub copy_in_response_message : Each Slot copy_fields → Message
unfolding copy_in_response
copy_in_response_message = copy_in_response.message

abbrev pub copy_out_response_message : Each Slot copy_fields → Message
unfolding copy_out_response
copy_out_response_message = copy_out_response.message

abbrev pub copy_both_response_message : Each Slot copy_fields → Message
unfolding copy_both_response
copy_both_response_message = copy_both_response.message
