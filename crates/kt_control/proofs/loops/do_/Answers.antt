use Rattle.std.proofs.lemmas.Result.{err_from_is_err_and}
use Rattle.kt_grammar.proofs.Advances.{halts_first, halts_second, halts_after}
use Rattle.kt_control.proofs.LoopRows.{has_behind_do, has_while_test, do_from}
use Rattle.kt_control.proofs.loops.do_.Goals as goal

pub returns-in_err-next : goal.returns-in_err-next
returns-in_err-next g c = let p = err_from_is_err_and c.from_residual.result c.from_residual.ensures.1 in rw (p.1, p.2) (halts_first has_behind_do c.in_err-next.ensures)

pub returns-in_err-found : goal.returns-in_err-found
returns-in_err-found g c = let p = err_from_is_err_and c.from_residual-in_err-found.result c.from_residual-in_err-found.ensures.1 in rw (p.1, p.2) (let o = c.in_ok-next.ensures in halts_after o.taken o.so_far (halts_first has_while_test c.in_err-found.ensures))

pub returns-in_err-test : goal.returns-in_err-test
returns-in_err-test g c = let p = err_from_is_err_and c.from_residual-in_err-test.result c.from_residual-in_err-test.ensures.1 in rw (p.1, p.2) (let o = c.in_ok-next.ensures in let q = c.in_ok-found.ensures in halts_after o.taken o.so_far (halts_second q.read q.so_far c.in_err-test.ensures))

pub returns : goal.returns
returns g c = do_from c.args.start c.args.label c.in_ok-next.ensures c.in_ok-found.ensures c.in_ok-test.ensures c.span_between-span.ensures c.do_node.ensures
