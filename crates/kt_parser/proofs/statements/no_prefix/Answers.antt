use Rattle.std.proofs.lemmas.Result.{err_from_is_err_and}
use Rattle.kt_grammar.proofs.Advances.{halts_first}
use Rattle.kt_parser.proofs.StatementRows.{has_placed, placed_from}
use Rattle.kt_parser.proofs.statements.no_prefix.Goals as goal

pub returns-in_err-left : goal.returns-in_err-left
returns-in_err-left g c = let p = err_from_is_err_and c.from_residual.result c.from_residual.ensures.1 in rw (p.1, p.2) (halts_first has_placed c.in_err-left.ensures)

pub returns : goal.returns
returns g c = placed_from c.in_ok-left.ensures c.placed.result c.placed.ensures
