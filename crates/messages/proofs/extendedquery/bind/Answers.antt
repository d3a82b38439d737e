-- `messages::extendedquery::bind` meets its contract: at each point, what is left to read is what there was at first.
use Rattle.std.proofs.lemmas.Result.{err_from_is_err_and}
use Rattle.protocol.specs.Kinds.{typed, bind}
use Rattle.envelope.proofs.Points.{on, off, done, begin, none}
use Rattle.messages.proofs.extendedquery.bind.Goals as goal

pub returns-in_err-frame : goal.returns-in_err-frame
unfolding bind
returns-in_err-frame c =
    let p = err_from_is_err_and c.from_residual.result c.from_residual.ensures.1 in
    rw (p.1, p.2) (none _ typed bind c.args.buf.now _ c.in_err-frame.ensures)

pub returns-in_default : goal.returns-in_default
unfolding bind
returns-in_default c = rw c.cut.ensures (off (begin _ typed bind _ c.in_ok-frame.ensures) c.in_default.ensures)

pub returns-in_default-text : goal.returns-in_default-text
unfolding bind
returns-in_default-text c = rw c.cut-in_default-text.ensures (off (on (begin _ typed bind _ c.in_ok-frame.ensures) c.in-Some.ensures) c.in_default-text.ensures)

pub returns-in_err-parameter_format_codes : goal.returns-in_err-parameter_format_codes
unfolding bind
returns-in_err-parameter_format_codes c =
    let p = err_from_is_err_and c.from_residual-in_err-parameter_format_codes.result c.from_residual-in_err-parameter_format_codes.ensures.1 in
    rw (p.1, p.2) (off (on (on (begin _ typed bind _ c.in_ok-frame.ensures) c.in-Some.ensures) c.in-Some-text.ensures) c.in_err-parameter_format_codes.ensures)

pub returns-in_err-parameters : goal.returns-in_err-parameters
unfolding bind
returns-in_err-parameters c =
    let p = err_from_is_err_and c.from_residual-in_err-parameters.result c.from_residual-in_err-parameters.ensures.1 in
    rw (p.1, p.2) (off (on (on (on (begin _ typed bind _ c.in_ok-frame.ensures) c.in-Some.ensures) c.in-Some-text.ensures) c.in_ok-parameter_format_codes.ensures) c.in_err-parameters.ensures)

pub returns-in_err-result_column_format_codes : goal.returns-in_err-result_column_format_codes
unfolding bind
returns-in_err-result_column_format_codes c =
    let p = err_from_is_err_and c.from_residual-in_err-result_column_format_codes.result c.from_residual-in_err-result_column_format_codes.ensures.1 in
    rw (p.1, p.2) (off (on (on (on (on (begin _ typed bind _ c.in_ok-frame.ensures) c.in-Some.ensures) c.in-Some-text.ensures) c.in_ok-parameter_format_codes.ensures) c.in_ok-parameters.ensures) c.in_err-result_column_format_codes.ensures)

pub returns : goal.returns
unfolding bind
returns c = done (on (on (on (on (on (begin _ typed bind _ c.in_ok-frame.ensures) c.in-Some.ensures) c.in-Some-text.ensures) c.in_ok-parameter_format_codes.ensures) c.in_ok-parameters.ensures) c.in_ok-result_column_format_codes.ensures) c.finished.ensures
