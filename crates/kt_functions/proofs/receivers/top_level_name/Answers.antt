use Rattle.std.proofs.Common.{sym, ◌∙◌}
use Rattle.kt_functions.proofs.ReceiverRows.{top_brackets, top_name}
use Rattle.kt_functions.proofs.receivers.top_level_name.Goals as goal

pub returns-then-is_op_at : goal.returns-then-is_op_at
returns-then-is_op_at c = top_brackets c.args.tokens.now c.args.at c.requires (sym c.is_op_at.ensures ∙ c.if-is_op_at.true) c.after_brackets.result c.after_brackets.ensures

pub returns : goal.returns
returns c = top_name c.args.tokens.now c.args.at c.requires (sym c.is_op_at.ensures ∙ c.if-is_op_at.false) c.from_name.result c.from_name.ensures
