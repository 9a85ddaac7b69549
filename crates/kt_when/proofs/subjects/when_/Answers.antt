use Rattle.std.proofs.lemmas.Result.{err_from_is_err_and}
use Rattle.kt_grammar.proofs.Advances.{halts_row, halts_first, halts_second, halts_after}
use Rattle.kt_when.proofs.SubjectRows.{has_in_braces, has_subject_branches, when_from}
use Rattle.kt_when.proofs.subjects.when_.Goals as goal

pub returns-in_err-next : goal.returns-in_err-next
returns-in_err-next g c = let p = err_from_is_err_and c.from_residual.result c.from_residual.ensures.1 in rw (p.1, p.2) (halts_row (halts_first has_subject_branches c.in_err-next.ensures))

pub returns-in_err-subject : goal.returns-in_err-subject
returns-in_err-subject g c = let p = err_from_is_err_and c.from_residual-in_err-subject.result c.from_residual-in_err-subject.ensures.1 in rw (p.1, p.2) (let o = c.in_ok-next.ensures in halts_row (halts_after o.taken o.so_far (halts_first has_in_braces c.in_err-subject.ensures)))

pub returns-in_err-branches : goal.returns-in_err-branches
returns-in_err-branches g c = let p = err_from_is_err_and c.from_residual-in_err-branches.result c.from_residual-in_err-branches.ensures.1 in rw (p.1, p.2) (let o = c.in_ok-next.ensures in let q = c.in_ok-subject.ensures in halts_row (halts_after o.taken o.so_far (halts_second q.read q.so_far c.in_err-branches.ensures)))

pub returns : goal.returns
returns g c = when_from c.span_between-span.result c.in_ok-next.ensures c.in_ok-subject.ensures c.in_ok-branches.ensures c.span_between-span.ensures c.when_of.ensures
