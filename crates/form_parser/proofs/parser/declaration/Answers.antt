use Rattle.std.proofs.lemmas.Result.{err_from_is_err_and}
use Rattle.form_parser.proofs.Readings.{fails_by}
use Rattle.form_parser.proofs.Trees.{first_of, behind_token, declaration_parts, declaration_read}
use Rattle.form_parser.proofs.parser.declaration.Goals as goal

pub returns-in_err-name-clause-parses : goal.returns-in_err-name-clause-parses
returns-in_err-name-clause-parses c =
    let p = err_from_is_err_and c.from_residual.result c.from_residual.ensures.1 in
    rw (p.1, p.2) (fails_by (λ w. first_of (declaration_parts c.requires w).parts) c.in_err-name.ensures.expects)

pub returns-in_err-_assign-clause-parses : goal.returns-in_err-_assign-clause-parses
returns-in_err-_assign-clause-parses c =
    let p = err_from_is_err_and c.from_residual-in_err-_assign.result c.from_residual-in_err-_assign.ensures.1 in
    rw (p.1, p.2) (fails_by (λ w. first_of (behind_token c.in_ok-name.ensures.expects (declaration_parts c.requires w).parts)) c.in_err-_assign.ensures.expects)

pub returns-in_err-value-clause-parses : goal.returns-in_err-value-clause-parses
returns-in_err-value-clause-parses c =
    let p = err_from_is_err_and c.from_residual-in_err-value.result c.from_residual-in_err-value.ensures.1 in
    rw (p.1, p.2) (fails_by (λ w. behind_token c.in_ok-_assign.ensures.expects (behind_token c.in_ok-name.ensures.expects (declaration_parts c.requires w).parts)) c.in_err-value.ensures.parses)

pub returns-clause-parses : goal.returns-clause-parses
returns-clause-parses c =
    rw c.joined-place.ensures (declaration_read c.requires c.in_ok-name.ensures.expects c.in_ok-_assign.ensures.expects c.in_ok-value.ensures.parses)
