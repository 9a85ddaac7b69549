use Rattle.std.proofs.lemmas.Result.{err_from_is_err_and}
use Rattle.kt_grammar.specs.Rows as rows
use Rattle.kt_grammar.proofs.Advances.{halts_row, halts_first, halts_after}
use Rattle.kt_classes.proofs.ClassRows.{has_named_interface, has_inherited, interface_from}
use Rattle.kt_classes.proofs.objects.interface_.Goals as goal

pub returns-in_err-next : goal.returns-in_err-next
returns-in_err-next c = let p = err_from_is_err_and c.from_residual.result c.from_residual.ensures.1 in rw (p.1, p.2) (halts_row (halts_first has_named_interface c.in_err-next.ensures))

pub returns-in_err-name : goal.returns-in_err-name
returns-in_err-name c = let p = err_from_is_err_and c.from_residual-in_err-name.result c.from_residual-in_err-name.ensures.1 in rw (p.1, p.2) (let o = c.in_ok-next.ensures in halts_row (halts_after o.taken o.so_far (halts_first (has_inherited (rows.class_body rows.in_interface)) c.in_err-name.ensures)))

pub returns-in_err-parts : goal.returns-in_err-parts
returns-in_err-parts c = let p = err_from_is_err_and c.from_residual-in_err-parts.result c.from_residual-in_err-parts.ensures.1 in rw (p.1, p.2) (let o = c.in_ok-next.ensures in let m = c.in_ok-name.ensures in halts_row (halts_after o.taken o.so_far (halts_after m.taken m.so_far c.in_err-parts.ensures)))

pub returns : goal.returns
returns c = interface_from c.in_ok-next.ensures c.in_ok-name.ensures c.in_ok-parts.ensures c.interface_node.ensures
