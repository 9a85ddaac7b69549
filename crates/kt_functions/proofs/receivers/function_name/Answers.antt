use Rattle.std.proofs.Common.{sym, ◌∙◌}
use Rattle.kt_functions.proofs.ReceiverRows.{at_top, in_body}
use Rattle.kt_functions.proofs.receivers.function_name.Goals as goal

pub returns-then-is_top_level : goal.returns-then-is_top_level
returns-then-is_top_level c = at_top c.args.site (sym c.is_top_level.ensures ∙ c.if-is_top_level.true) c.args.tokens.now c.args.at c.top_level_name.result c.top_level_name.ensures

pub returns : goal.returns
returns c = in_body c.args.site (sym c.is_top_level.ensures ∙ c.if-is_top_level.false) c.args.tokens.now c.args.at c.only_name.result c.only_name.ensures
