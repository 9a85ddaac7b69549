use Rattle.std.proofs.lemmas.Result.{err_from_is_err_and}
use Rattle.kt_grammar.proofs.Advances.{halts_row, halts_first, halts_second, halts_after}
use Rattle.kt_control.proofs.ConditionalRows.{has_behind_if, has_behind_test, conditional_from}
use Rattle.kt_control.proofs.conditionals.conditional.Goals as goal

pub returns-in_err-next : goal.returns-in_err-next
returns-in_err-next g c = let p = err_from_is_err_and c.from_residual.result c.from_residual.ensures.1 in rw (p.1, p.2) (halts_row (halts_first has_behind_if c.in_err-next.ensures))

pub returns-in_err-test : goal.returns-in_err-test
returns-in_err-test g c = let p = err_from_is_err_and c.from_residual-in_err-test.result c.from_residual-in_err-test.ensures.1 in rw (p.1, p.2) (let o = c.in_ok-next.ensures in halts_row (halts_after o.taken o.so_far (halts_first has_behind_test c.in_err-test.ensures)))

pub returns-in_err-found : goal.returns-in_err-found
returns-in_err-found g c = let p = err_from_is_err_and c.from_residual-in_err-found.result c.from_residual-in_err-found.ensures.1 in rw (p.1, p.2) (let o = c.in_ok-next.ensures in let q = c.in_ok-test.ensures in halts_row (halts_after o.taken o.so_far (halts_second q.read q.so_far c.in_err-found.ensures)))

pub returns : goal.returns
returns g c = conditional_from c.in_ok-next.ensures c.in_ok-test.ensures c.in_ok-found.ensures c.last_place.ensures c.across-span.ensures c.conditional_node.ensures
