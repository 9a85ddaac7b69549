use Rattle.std.proofs.Common.{sym, ◌∙◌}
use Rattle.std.proofs.lemmas.Result.{err_from_is_err_and}
use Rattle.kt_functions.proofs.ValueRows.{body_block, body_value, block_halts, value_halts}
use Rattle.kt_functions.proofs.values.body.Goals as goal

pub returns-in_err-block : goal.returns-in_err-block
returns-in_err-block c = let p = err_from_is_err_and c.from_residual.result c.from_residual.ensures.1 in rw (p.1, p.2) (block_halts c.requires.within (sym c.is_op_at.ensures ∙ c.if-is_op_at.true) c.in_err-block.ensures)

pub returns-then-is_op_at : goal.returns-then-is_op_at
returns-then-is_op_at c = body_block (sym c.is_op_at.ensures ∙ c.if-is_op_at.true) c.in_ok-block.ensures

pub returns-in_err-value : goal.returns-in_err-value
returns-in_err-value c = let p = err_from_is_err_and c.from_residual-in_err-value.result c.from_residual-in_err-value.ensures.1 in rw (p.1, p.2) (value_halts c.requires.within (sym c.is_op_at.ensures ∙ c.if-is_op_at.false) c.in_err-value.ensures)

pub returns : goal.returns
returns c = body_value (sym c.is_op_at.ensures ∙ c.if-is_op_at.false) c.in_ok-value.ensures
