use Rattle.std.proofs.lemmas.Result.{err_from_is_err_and}
use Rattle.kt_grammar.proofs.Advances.{halts_first, halts_second}
use Rattle.kt_grammar.proofs.TypeRows.{has_op}
use Rattle.kt_lexer.specs.declared.token.Operator.TheVariants as operator
use Rattle.kt_classes.proofs.BodyRows.{closed_by}
use Rattle.kt_classes.proofs.bodies.to_brace.Goals as goal

pub returns-in_err-all : goal.returns-in_err-all
returns-in_err-all c = let p = err_from_is_err_and c.from_residual.result c.from_residual.ensures.1 in rw (p.1, p.2) (halts_first (has_op operator.CloseBrace) c.in_err-all.ensures)

pub returns-in_err-end : goal.returns-in_err-end
returns-in_err-end c = let p = err_from_is_err_and c.from_residual-in_err-end.result c.from_residual-in_err-end.ensures.1 in rw (p.1, p.2) (let x = c.in_ok-all.ensures in halts_second x.read x.so_far c.in_err-end.ensures)

pub returns : goal.returns
returns c = closed_by c.in_ok-all.ensures c.in_ok-end.ensures
