use Rattle.std.proofs.lemmas.Result.{err_from_is_err_and}
use Rattle.kt_grammar.proofs.Advances.{halts_first, halts_after}
use Rattle.kt_calls.proofs.SuffixRows.{has_indexes, index_from}
use Rattle.kt_calls.proofs.endings.index.Goals as goal

pub returns-in_err-token : goal.returns-in_err-token
returns-in_err-token g c = let p = err_from_is_err_and c.from_residual.result c.from_residual.ensures.1 in rw (p.1, p.2) (halts_first has_indexes c.in_err-token.ensures)

pub returns-in_err-all : goal.returns-in_err-all
returns-in_err-all g c = let p = err_from_is_err_and c.from_residual-in_err-all.result c.from_residual-in_err-all.ensures.1 in rw (p.1, p.2) (let o = c.in_ok-token.ensures in halts_after o.taken o.so_far c.in_err-all.ensures)

pub returns : goal.returns
returns g c = index_from c.in_ok-token.ensures c.in_ok-all.ensures c.span_between-span.ensures c.index_ending.ensures
