-- Bundles of definitions, to open together: to unfold one of these is to unfold all that its line names.
use Rattle.protocol.specs.Bytes.{is_one_of, number_from, number_at, signed_of}
use Rattle.protocol.specs.Each.{least_of_each}
use Rattle.protocol.specs.Fields.{item_least}
use Rattle.protocol.specs.Kinds.{the_table, find, mode_of, kind_in}
use Rattle.protocol.specs.Reading.{read_number, one_more, zero_in, text_at, read_text, value_at, read_value, pass_items, count_at, read_count, read_counted, ended_from, read_ended}
use Rattle.protocol.specs.Decode.{length_by, typed_by, untyped_by, bare_by, header_in, header_by, header_of, closed, decoded_by, decode_by, decode_of}

-- all of decoding, so that a decoding of given bytes computes
unfoldable pub the_decoding : Unit {0}
unfolding the_table find mode_of kind_in number_from number_at signed_of is_one_of least_of_each item_least read_number one_more zero_in text_at read_text value_at read_value pass_items count_at read_count read_counted ended_from read_ended length_by typed_by untyped_by bare_by header_in header_by header_of closed decoded_by decode_by decode_of
the_decoding = tt
