use Rattle.std.proofs.lemmas.Result.{err_from_is_err_and}
use Rattle.kt_grammar.proofs.Advances.{halts_left, halts_after}
use Rattle.kt_grammar.proofs.Steps.{standing}
use Rattle.kt_when.proofs.SubjectRows.{not_bound, bound_from}
use Rattle.kt_when.proofs.subjects.bound.Goals as goal

pub returns-in_default : goal.returns-in_default
returns-in_default c = not_bound c.requires c.in_default.ensures

pub returns-in_err-name : goal.returns-in_err-name
returns-in_err-name c = let p = err_from_is_err_and c.from_residual.result c.from_residual.ensures.1 in rw (p.1, p.2) (let o = c.in-Some.ensures in halts_left c.requires (standing o.taken) (halts_after o.taken o.so_far c.in_err-name.ensures))

pub returns : goal.returns
returns c = bound_from c.in-Some.ensures c.in_ok-name.ensures
