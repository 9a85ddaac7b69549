use Rattle.std.proofs.lemmas.Result.{err_from_is_err_and}
use Rattle.kt_grammar.specs.Built as built
use Rattle.kt_grammar.specs.Rows as rows
use Rattle.kt_grammar.proofs.Advances.{halts_row, halts_first, halts_after}
use Rattle.kt_grammar.proofs.NameRows.{has_no_type}
use Rattle.kt_grammar.proofs.OperandRows.{from_near}
use Rattle.kt_members.proofs.GetterRows.{has_close_type, has_behind_get, head_from}
use Rattle.kt_members.proofs.getters.getter_head.Goals as goal

pub returns-in_err-bracket : goal.returns-in_err-bracket
returns-in_err-bracket c = let p = err_from_is_err_and c.from_residual.result c.from_residual.ensures.1 in rw (p.1, p.2) (halts_row (halts_first has_behind_get c.in_err-bracket.ensures))

pub returns-in_err-close : goal.returns-in_err-close
returns-in_err-close c = let p = err_from_is_err_and c.from_residual-in_err-close.result c.from_residual-in_err-close.ensures.1 in rw (p.1, p.2) (let g = c.in_ok-bracket.ensures in halts_row (halts_after g.taken g.so_far (halts_first has_close_type c.in_err-close.ensures)))

pub returns-in_err-end : goal.returns-in_err-end
returns-in_err-end c = let p = err_from_is_err_and c.from_residual-in_err-end.result c.from_residual-in_err-end.ensures.1 in rw (p.1, p.2) (let g = c.in_ok-bracket.ensures in let o = c.in_ok-close.ensures in halts_row (halts_after g.taken g.so_far (halts_after o.taken o.so_far (halts_first has_no_type c.in_err-end.ensures))))

pub returns : goal.returns
returns c = head_from c.in_ok-bracket.ensures c.in_ok-close.ensures c.in_ok-end.ensures c.behind.result
    (from_near rows.colon_type built.written_type c.args.tokens.now c.in_ok-end.end c.colon_type.result c.behind.result c.behind.ensures c.colon_type.ensures)
