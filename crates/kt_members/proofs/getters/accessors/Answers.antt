use Rattle.std.proofs.lemmas.Result.{err_from_is_err_and}
use Rattle.kt_grammar.proofs.Advances.{halts_row, halts_first}
use Rattle.kt_members.proofs.GetterRows.{has_behind_head, accessors_from}
use Rattle.kt_members.proofs.getters.accessors.Goals as goal

pub returns-in_err-ty : goal.returns-in_err-ty
returns-in_err-ty c = let p = err_from_is_err_and c.from_residual.result c.from_residual.ensures.1 in rw (p.1, p.2) (halts_row (halts_first (has_behind_head c.args.is_var) c.in_err-ty.ensures))

pub returns : goal.returns
returns c = accessors_from c.args.is_var c.in_ok-ty.ensures c.behind_head.result c.behind_head.ensures
