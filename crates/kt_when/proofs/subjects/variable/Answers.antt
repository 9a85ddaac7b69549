use Rattle.std.proofs.lemmas.Result.{err_from_is_err_and}
use Rattle.kt_lexer.specs.declared.token.Operator.TheVariants as operator
use Rattle.kt_grammar.proofs.Advances.{halts_first, halts_second}
use Rattle.kt_grammar.proofs.TypeRows.{has_op}
use Rattle.kt_when.proofs.SubjectRows.{variable_from}
use Rattle.kt_when.proofs.subjects.variable.Goals as goal

pub returns-in_err-name : goal.returns-in_err-name
returns-in_err-name c = let p = err_from_is_err_and c.from_residual.result c.from_residual.ensures.1 in rw (p.1, p.2) (halts_first (has_op operator.Assign) c.in_err-name.ensures)

pub returns-in_err-end : goal.returns-in_err-end
returns-in_err-end c = let p = err_from_is_err_and c.from_residual-in_err-end.result c.from_residual-in_err-end.ensures.1 in rw (p.1, p.2) (let p = c.in_ok-name.ensures in halts_second p.read p.so_far c.in_err-end.ensures)

pub returns : goal.returns
returns c = variable_from c.in_ok-name.ensures c.in_ok-end.ensures
