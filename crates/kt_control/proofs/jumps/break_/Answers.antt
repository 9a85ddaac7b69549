use Rattle.std.proofs.lemmas.Result.{err_from_is_err_and}
use Rattle.kt_grammar.specs.Tokens.{is_label_use}
use Rattle.kt_grammar.proofs.Advances.{halts_first}
use Rattle.kt_control.proofs.JumpRows.{break_from}
use Rattle.kt_control.proofs.TokenMoves.{has_label}
use Rattle.kt_control.proofs.jumps.break_.Goals as goal

pub returns-in_err-next : goal.returns-in_err-next
returns-in_err-next c = let p = err_from_is_err_and c.from_residual.result c.from_residual.ensures.1 in rw (p.1, p.2) (halts_first (has_label is_label_use) c.in_err-next.ensures)

pub returns : goal.returns
returns c = break_from c.in_ok-next.ensures c.label_use-label.ensures c.span_between-span.ensures c.broken.ensures
