use Rattle.std.proofs.Common.{sym, ◌∙◌}
use Rattle.std.proofs.lemmas.Result.{err_from_is_err_and}
use Rattle.kt_grammar.specs.Parsed.{halt_memory}
use Rattle.kt_grammar.proofs.Advances.{halts_first}
use Rattle.kt_control.proofs.LocalRows.{has_behind_name, name_typed, name_valued}
use Rattle.kt_control.proofs.locals.one_name.Goals as goal

pub returns-in_err-name : goal.returns-in_err-name
returns-in_err-name g c = let p = err_from_is_err_and c.from_residual.result c.from_residual.ensures.1 in rw (p.1, p.2) (halts_first has_behind_name c.in_err-name.ensures)

pub returns-then-is_op_at : goal.returns-then-is_op_at
returns-then-is_op_at g c = name_typed c.in_ok-name.ensures (sym c.is_op_at.ensures ∙ c.if-is_op_at.true) c.with_type.result c.with_type.ensures

pub returns-in_err-all : goal.returns-in_err-all
returns-in_err-all g c = let p = err_from_is_err_and c.from_residual-in_err-all.result c.from_residual-in_err-all.ensures.1 in rw (p.1, p.2) (halt_memory)

pub returns : goal.returns
returns g c = name_valued c.in_ok-all.all c.in_ok-name.ensures (sym c.is_op_at.ensures ∙ c.if-is_op_at.false) c.in_ok-all.ensures c.with_value.result c.with_value.ensures
