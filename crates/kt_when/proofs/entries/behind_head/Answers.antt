use Rattle.std.proofs.lemmas.Result.{err_from_is_err_and}
use Rattle.kt_bodies.proofs.StatementRows.{has_statement}
use Rattle.kt_grammar.proofs.Advances.{halts_first}
use Rattle.kt_when.proofs.BranchRows.{arrow_from}
use Rattle.kt_when.proofs.entries.behind_head.Goals as goal

pub returns-in_err-next : goal.returns-in_err-next
returns-in_err-next g c = let p = err_from_is_err_and c.from_residual.result c.from_residual.ensures.1 in rw (p.1, p.2) (halts_first has_statement c.in_err-next.ensures)

pub returns : goal.returns
returns g c = arrow_from c.args.before _ c.args.conds c.in_ok-next.ensures c.behind_arrow.result c.behind_arrow.ensures
