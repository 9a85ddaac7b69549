use Rattle.std.proofs.lemmas.Result.{err_from_is_err_and}
use Rattle.kt_grammar.specs.Parsed.{halt_memory}
use Rattle.kt_grammar.proofs.Advances.{halts_first, halts_after}
use Rattle.kt_bodies.proofs.TryRows.{has_block, last_from}
use Rattle.kt_bodies.proofs.bodies.Bodies.last_clause.Goals as goal

pub returns-in_err-next : goal.returns-in_err-next
returns-in_err-next g c = let p = err_from_is_err_and c.from_residual.result c.from_residual.ensures.1 in rw (p.1, p.2) (halts_first has_block c.in_err-next.ensures)

pub returns-in_err-last : goal.returns-in_err-last
returns-in_err-last g c = let p = err_from_is_err_and c.from_residual-in_err-last.result c.from_residual-in_err-last.ensures.1 in rw (p.1, p.2) (let o = c.in_ok-next.ensures in halts_after o.taken o.so_far c.in_err-last.ensures)

pub returns-in_err-last-2 : goal.returns-in_err-last-2
returns-in_err-last-2 g c = let p = err_from_is_err_and c.from_residual-in_err-last-2.result c.from_residual-in_err-last-2.ensures.1 in rw (p.1, p.2) (halt_memory)

pub returns : goal.returns
returns g c = last_from c.in_ok-next.ensures c.in_ok-last.ensures c.in_ok-last-2.ensures
