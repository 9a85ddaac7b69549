use Rattle.std.proofs.lemmas.Result.{err_from_is_err_and}
use Rattle.kt_grammar.proofs.Advances.{halts_first, halts_after}
use Rattle.kt_grammar.proofs.TypeRows.{has_name}
use Rattle.kt_calls.proofs.SuffixRows.{member_from}
use Rattle.kt_calls.proofs.endings.member.Goals as goal

pub returns-in_err-dot : goal.returns-in_err-dot
returns-in_err-dot c = let p = err_from_is_err_and c.from_residual.result c.from_residual.ensures.1 in rw (p.1, p.2) (halts_first has_name c.in_err-dot.ensures)

pub returns-in_err-name : goal.returns-in_err-name
returns-in_err-name c = let p = err_from_is_err_and c.from_residual-in_err-name.result c.from_residual-in_err-name.ensures.1 in rw (p.1, p.2) (let o = c.in_ok-dot.ensures in halts_after o.taken o.so_far c.in_err-name.ensures)

pub returns : goal.returns
returns c = member_from c.in_ok-dot.ensures c.in_ok-name.ensures c.member_ending.ensures
