use Rattle.std.proofs.lemmas.Result.{err_from_is_err_and}
use Rattle.kt_grammar.proofs.Advances.{halts_first, halts_second}
use Rattle.kt_calls.proofs.SuffixRows.{has_behind_index, has_close, indexes_from}
use Rattle.kt_calls.proofs.endings.indexes.Goals as goal

pub returns-in_err-first : goal.returns-in_err-first
returns-in_err-first g c = let p = err_from_is_err_and c.from_residual.result c.from_residual.ensures.1 in rw (p.1, p.2) (halts_first has_behind_index c.in_err-first.ensures)

pub returns-in_err-all : goal.returns-in_err-all
returns-in_err-all g c = let p = err_from_is_err_and c.from_residual-in_err-all.result c.from_residual-in_err-all.ensures.1 in rw (p.1, p.2) (let p = c.in_ok-first.ensures in halts_second p.read p.so_far (halts_first has_close c.in_err-all.ensures))

pub returns-in_err-close : goal.returns-in_err-close
returns-in_err-close g c = let p = err_from_is_err_and c.from_residual-in_err-close.result c.from_residual-in_err-close.ensures.1 in rw (p.1, p.2) (let p = c.in_ok-first.ensures in let q = c.in_ok-all.ensures in halts_second p.read p.so_far (halts_second q.read q.so_far c.in_err-close.ensures))

pub returns : goal.returns
returns g c = indexes_from c.in_ok-first.ensures c.in_ok-all.ensures c.in_ok-close.ensures
