use Rattle.std.proofs.Common.{sym, ◌∙◌}
use Rattle.std.proofs.lemmas.Result.{err_from_is_err_and}
use Rattle.kt_grammar.proofs.Advances.{halts_first}
use Rattle.kt_control.proofs.JumpRows.{has_behind_return, return_with, return_bare}
use Rattle.kt_control.proofs.jumps.return_.Goals as goal

pub returns-in_err-next : goal.returns-in_err-next
returns-in_err-next g c = let p = err_from_is_err_and c.from_residual.result c.from_residual.ensures.1 in rw (p.1, p.2) (halts_first has_behind_return c.in_err-next.ensures)

pub returns-then-begins_on_line : goal.returns-then-begins_on_line
returns-then-begins_on_line g c = return_with c.in_ok-next.ensures c.label_use-label.ensures (sym c.begins_on_line.ensures ∙ c.if-begins_on_line.true) c.return_value.result c.return_value.ensures

pub returns : goal.returns
returns g c = return_bare c.in_ok-next.ensures c.label_use-label.ensures (sym c.begins_on_line.ensures ∙ c.if-begins_on_line.false) c.span_between-span.ensures c.returned.ensures
