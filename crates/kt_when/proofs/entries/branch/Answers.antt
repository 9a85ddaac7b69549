use Rattle.std.proofs.lemmas.Result.{err_from_is_err_and}
use Rattle.kt_grammar.proofs.Advances.{halts_row, halts_first}
use Rattle.kt_when.proofs.BranchRows.{has_arrow_and_body, branch_from}
use Rattle.kt_when.proofs.entries.branch.Goals as goal

pub returns-in_err-conds : goal.returns-in_err-conds
returns-in_err-conds g c = let p = err_from_is_err_and c.from_residual.result c.from_residual.ensures.1 in rw (p.1, p.2) (halts_row (halts_first has_arrow_and_body c.in_err-conds.ensures))

pub returns : goal.returns
returns g c = branch_from c.args.before c.in_ok-conds.ensures c.behind_head.result c.behind_head.ensures
