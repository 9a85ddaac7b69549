use Rattle.std.proofs.lemmas.Result.{err_from_is_err_and}
use Rattle.kt_grammar.proofs.PrefixRows.{run_operand, run_stuck}
use Rattle.kt_grammar.proofs.operators.Operators.prefix.Goals as goal

pub returns-in_err-of : goal.returns-in_err-of
returns-in_err-of g c = let p = err_from_is_err_and c.from_residual.result c.from_residual.ensures.1 in rw (p.1, p.2) (run_stuck c.to.result c.behind_prefixes-last.ensures c.to.ensures c.in_err-of.ensures)

pub wrapped-requires-clause-operand : goal.wrapped-requires-clause-operand
wrapped-requires-clause-operand g c = run_operand c.to.result c.behind_prefixes-last.ensures c.to.ensures c.in_ok-of.ensures
