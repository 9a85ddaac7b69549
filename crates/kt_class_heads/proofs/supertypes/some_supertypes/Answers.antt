use Rattle.std.proofs.lemmas.Result.{err_from_is_err_and}
use Rattle.kt_grammar.proofs.Advances.{halts_first}
use Rattle.kt_class_heads.proofs.SupertypeRows.{has_no_comma, some_from}
use Rattle.kt_class_heads.proofs.supertypes.some_supertypes.Goals as goal

pub returns-in_err-head : goal.returns-in_err-head
returns-in_err-head c = let p = err_from_is_err_and c.from_residual.result c.from_residual.ensures.1 in rw (p.1, p.2) (halts_first has_no_comma c.in_err-head.ensures)

pub returns : goal.returns
returns c = some_from c.new-none.result c.in_ok-head.head c.new-none.ensures c.in_ok-head.ensures c.behind_comma.result c.behind_comma.ensures
