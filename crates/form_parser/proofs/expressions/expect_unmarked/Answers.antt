use Rattle.std.proofs.lemmas.Result.{err_from_is_err_and}
use Rattle.form_parser.specs.Parsed.{refuted}
use Rattle.form_parser.proofs.Readings.{fails_by, without_mark, marked_fails, unmarked_stands}
use Rattle.form_parser.proofs.expressions.expect_unmarked.Goals as goal

pub returns-in_err-token-clause-expects : goal.returns-in_err-token-clause-expects
returns-in_err-token-clause-expects c =
    let p = err_from_is_err_and c.from_residual.result c.from_residual.ensures.1 in
    rw (p.1, p.2) (fails_by without_mark c.in_err-token.ensures.expects)

pub returns-then-token-clause-expects : goal.returns-then-token-clause-expects
returns-then-token-clause-expects c = refuted (λ w. marked_fails c.in_ok-token.ensures.expects c.if-token.true w)

pub returns-clause-expects : goal.returns-clause-expects
returns-clause-expects c = unmarked_stands c.in_ok-token.ensures.expects c.if-token.false
