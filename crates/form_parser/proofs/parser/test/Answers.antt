use Rattle.std.proofs.lemmas.Result.{err_from_is_err_and}
use Rattle.form_parser.proofs.Readings.{fails_by}
use Rattle.form_parser.proofs.Trees.{first_of, behind_token, behind_expression, test_parts, test_read}
use Rattle.form_parser.proofs.parser.test.Goals as goal

pub returns-in_err-_open-clause-parses : goal.returns-in_err-_open-clause-parses
returns-in_err-_open-clause-parses c =
    let p = err_from_is_err_and c.from_residual.result c.from_residual.ensures.1 in
    rw (p.1, p.2) (fails_by (λ w. first_of (test_parts w).parts) c.in_err-_open.ensures.expects)

pub returns-in_err-value-clause-parses : goal.returns-in_err-value-clause-parses
returns-in_err-value-clause-parses c =
    let p = err_from_is_err_and c.from_residual-in_err-value.result c.from_residual-in_err-value.ensures.1 in
    rw (p.1, p.2) (fails_by (λ w. first_of (behind_token c.in_ok-_open.ensures.expects (test_parts w).parts)) c.in_err-value.ensures.parses)

pub returns-in_err-_close-clause-parses : goal.returns-in_err-_close-clause-parses
returns-in_err-_close-clause-parses c =
    let p = err_from_is_err_and c.from_residual-in_err-_close.result c.from_residual-in_err-_close.ensures.1 in
    rw (p.1, p.2) (fails_by (λ w. behind_expression c.in_ok-value.ensures.parses (behind_token c.in_ok-_open.ensures.expects (test_parts w).parts)) c.in_err-_close.ensures.expects)

pub returns-clause-parses : goal.returns-clause-parses
returns-clause-parses c = test_read c.in_ok-_open.ensures.expects c.in_ok-value.ensures.parses c.in_ok-_close.ensures.expects
