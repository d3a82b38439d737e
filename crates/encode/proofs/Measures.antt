-- For each kind: its limit, when its arguments can be written, and how many bytes their body then has.
use Prim.Native.Nat.{ℕ, ◌+◌, ◌*◌, ◌<◌}
use mathlib.Core.Bool.{true, ◌&&◌, and-true, and_assoc}
use mathlib.Core.List.{List}
use mathlib.Core.Option.{some}
use mathlib.Core.Path.{refl}
use native.Mathlib.Omega.{arith}
use lib.Dec.{leb}
use lib.IntN.{ℤ}
use lib.ListN.{length, get_or, length-append}
use Rattle.protocol.specs.Bytes.{no_zero, is_one_of}
use Rattle.protocol.specs.Each.{able_each, bytes_of_each}
use Rattle.protocol.specs.Encode.{items, values_given, error_fields_given, pairs_given, texts_given}
use Rattle.protocol.specs.Fields.{most, signed_count, unsigned_count}
use Rattle.protocol.specs.Kinds as K
use Rattle.protocol.specs.WellFormed.{body_bytes}
use Rattle.writers.specs.Given.{is_some, named}
use Rattle.writers.proofs.Encoding.{Measured, MeasuredIn, measured}
use Rattle.writers.proofs.ErrorLaws.{able_errors, length_errors}
use Rattle.writers.proofs.GivenLaws.{measured_given}
use Rattle.writers.proofs.Lists.{able_text, able-signed, able_byte, able-oids, length_text, length-signed, length_byte, length-oids, able-rest, able-formats, length_rest, length-formats}
use Rattle.writers.proofs.TextLaws.{some_pairs, able-pairs, length_pairs}
use Rattle.writers.proofs.ValueLaws.{able-values, length-values}
use Rattle.encode.specs.Given as goal

pub parse : (name query oids : List ℕ)
    → Measured K.frontend K.parse (goal.parse name query oids) K.large ((no_zero name && no_zero query) && leb (length oids) (most unsigned_count)) (length name + length query + 4 * length oids + 4)
unfolding K.frontend K.parse goal.parse able_each body_bytes bytes_of_each
parse name query oids =
    measured K.frontend K.parse (name, (query, (items oids, tt))) refl refl
    (simp (able_text, able-oids, and-true, and_assoc) refl)
    (simp (length-append, length_text, length-oids) (omega arith))

pub aimed : (tag target : ℕ) (name : List ℕ) → Measured K.frontend (goal.aimed tag) (goal.aim_of tag target name) K.small (is_one_of target K.targets && no_zero name) (length name + 2)
unfolding K.frontend able_each body_bytes bytes_of_each
aimed tag target name =
    measured K.frontend (goal.aimed tag) (target, (name, tt)) refl refl
    (simp (able_byte, able_text, and-true) refl)
    (simp (length-append, length_byte, length_text) (omega arith))

pub execute : (name : List ℕ) (rows : ℤ) → Measured K.frontend K.execute (goal.execute name rows) K.small (no_zero name) (length name + 5)
unfolding K.frontend K.execute goal.execute able_each body_bytes bytes_of_each
execute name rows =
    measured K.frontend K.execute (name, (rows, tt)) refl refl
    (simp (able_text, able-signed, and-true) refl)
    (simp (length-append, length_text, length-signed) (omega arith))

pub copy_data : (bytes : List ℕ) → Measured K.frontend K.copy_data (goal.copy_data bytes) K.large true (length bytes)
unfolding K.frontend K.copy_data goal.copy_data able_each body_bytes bytes_of_each
copy_data bytes =
    measured K.frontend K.copy_data (bytes, tt) refl refl
    (simp (able-rest, and-true) refl)
    (simp (length-append, length_rest) (omega arith))

pub formatted : (tag : ℕ) (format : ℤ) (formats : List ℤ)
    → Measured K.backend (goal.formatted tag) (goal.formats_of tag format formats) K.small (leb (length formats) (most signed_count)) (2 * length formats + 3)
unfolding K.backend able_each body_bytes bytes_of_each
formatted tag format formats =
    measured K.backend (goal.formatted tag) (format, (items formats, tt)) refl refl
    (simp (able-signed, able-formats, and-true) refl)
    (simp (length-append, length-signed, length-formats) (omega arith))

pub parameter_description : (types : List ℕ)
    → Measured K.backend K.parameter_description (goal.parameter_description types) K.large (leb (length types) (most unsigned_count)) (4 * length types + 2)
unfolding K.backend K.parameter_description goal.parameter_description able_each body_bytes bytes_of_each
parameter_description types =
    measured K.backend K.parameter_description (items types, tt) refl refl
    (simp (able-oids, and-true) refl)
    (simp (length-append, length-oids) (omega arith))

pub ready_for_query : (status : ℕ) → Measured K.backend K.ready_for_query (goal.ready_for_query status) K.small (is_one_of status K.statuses) 1
unfolding K.backend K.ready_for_query goal.ready_for_query able_each body_bytes bytes_of_each
ready_for_query status =
    measured K.backend K.ready_for_query (status, tt) refl refl
    (simp (able_byte, and-true) refl)
    (simp (length-append, length_byte) (omega arith))

pub notification_response : (pid : ℤ) (channel payload : List ℕ)
    → Measured K.backend K.notification_response (goal.notification_response pid channel payload) K.large (no_zero channel && no_zero payload) (length channel + length payload + 6)
unfolding K.backend K.notification_response goal.notification_response able_each body_bytes bytes_of_each
notification_response pid channel payload =
    measured K.backend K.notification_response (pid, (channel, (payload, tt))) refl refl
    (simp (able-signed, able_text, and-true) refl)
    (simp (length-append, length-signed, length_text) (omega arith))

pub parameter_status : (name value : List ℕ)
    → Measured K.backend K.parameter_status (goal.parameter_status name value) K.small (no_zero name && no_zero value) (length name + length value + 2)
unfolding K.backend K.parameter_status goal.parameter_status able_each body_bytes bytes_of_each
parameter_status name value =
    measured K.backend K.parameter_status (name, (value, tt)) refl refl
    (simp (able_text, and-true) refl)
    (simp (length-append, length_text) (omega arith))

pub backend_key_data : (pid key : ℤ) → Measured K.backend K.backend_key_data (goal.backend_key_data pid key) K.small true 8
unfolding K.backend K.backend_key_data goal.backend_key_data able_each body_bytes bytes_of_each
backend_key_data pid key =
    measured K.backend K.backend_key_data (pid, (key, tt)) refl refl
    (simp (able-signed, and-true) refl)
    (simp (length-append, length-signed) (omega arith))

pub fieldless : (tag : ℕ) → Measured K.frontend (goal.fieldless tag) (some tt) K.small true 0
unfolding K.frontend able_each body_bytes bytes_of_each
fieldless tag = measured K.frontend (goal.fieldless tag) tt refl refl refl refl

pub texted : (tag : ℕ) (s : List ℕ) → Measured K.frontend (goal.texted tag) (goal.text_of tag s) K.small (no_zero s) (length s + 1)
unfolding K.frontend able_each body_bytes bytes_of_each
texted tag s =
    measured K.frontend (goal.texted tag) (s, tt) refl refl
    (simp (able_text, and-true) refl)
    (simp (length-append, length_text) (omega arith))

-- ---- kinds with a list that may be no content

pub bind : (portal statement : List ℕ) (formats lengths : List ℤ) (joined : List ℕ) (results : List ℤ)
    → Measured K.frontend K.bind (goal.bind portal statement formats lengths joined results) K.large
    (((is_some (values_given lengths joined) && no_zero portal) && no_zero statement) && ((leb (length formats) (most unsigned_count) && leb (length lengths) (most unsigned_count)) && leb (length results) (most unsigned_count)))
    (length portal + length statement + 2 * length formats + 4 * length lengths + length joined + 2 * length results + 8)
unfolding K.frontend K.bind goal.bind able_each body_bytes bytes_of_each
bind portal statement formats lengths joined results =
    simp and_assoc
    (measured_given K.bind (λ vs. (portal, (statement, (items formats, (vs, (items results, tt)))))) K.frontend (values_given lengths joined) refl refl
    (λ vs is. rw (able-values _ _ lengths joined vs is) (simp (able_text, able-formats, and-true) refl))
    (λ vs is. simp (length-append, length_text, length-formats) (omega (arith, length-values unsigned_count lengths joined vs is))))

pub data_row : (lengths : List ℤ) (joined : List ℕ)
    → Measured K.backend K.data_row (goal.data_row lengths joined) K.large (is_some (values_given lengths joined) && leb (length lengths) (most signed_count)) (length joined + 4 * length lengths + 2)
unfolding K.backend K.data_row goal.data_row able_each body_bytes bytes_of_each
data_row lengths joined =
    measured_given K.data_row (λ vs. (vs, tt)) K.backend (values_given lengths joined) refl refl
    (λ vs is. rw (able-values _ _ lengths joined vs is) (and-true (leb (length lengths) (most signed_count))))
    (λ vs is. simp length-append (omega (arith, length-values signed_count lengths joined vs is)))

-- codes are bytes
pub reported : (tag : ℕ) (codes lengths joined : List ℕ) → ((i : ℕ) → get_or codes i 0 < 256)
    → Measured K.backend (goal.reported tag) (goal.report_of tag codes lengths joined) K.large ((is_some (error_fields_given codes lengths joined) && no_zero joined) && no_zero codes) (2 * length codes + length joined + 1)
unfolding K.backend able_each body_bytes bytes_of_each
reported tag codes lengths joined small =
    rw and_assoc
    (measured_given (goal.reported tag) (λ fs. (fs, tt)) K.backend (error_fields_given codes lengths joined) refl refl
    (λ fs is. rw (able_errors codes lengths joined fs small is _) (and-true (no_zero joined && no_zero codes)))
    (λ fs is. simp length-append (omega (arith, length_errors codes lengths joined fs small is))))

pub startup : (lengths joined : List ℕ)
    → MeasuredIn K.untyped K.first_packet K.startup (goal.startup lengths joined) K.small ((is_some (texts_given lengths joined) && no_zero joined) && named lengths) (length lengths + length joined + 1)
unfolding K.first_packet K.startup goal.startup able_each body_bytes bytes_of_each
startup lengths joined =
    rw (and_assoc, some_pairs lengths joined (no_zero joined))
    (measured_given K.startup (λ ps. (ps, tt)) K.first_packet (pairs_given lengths joined) refl refl
    (λ ps is. rw (able-pairs lengths joined ps is _) (and-true (no_zero joined && named lengths)))
    (λ ps is. simp length-append (omega (arith, length_pairs lengths joined ps is))))
