use Rattle.std.proofs.Common.{length, ◌+◌, ◌-◌, ◌*◌}
use Rattle.kt_grammar.proofs.arrows.+arrow_types.Given as goal

abbrev pub decreases-type_before_arrow : goal.decreases-type_before_arrow
decreases-type_before_arrow l = 5 * (length l.tokens.now - l.at.at) + 3

abbrev pub decreases-core_before_arrow : goal.decreases-core_before_arrow
decreases-core_before_arrow l = 5 * (length l.tokens.now - l.at.at) + 2

abbrev pub decreases-bracketed_before_arrow : goal.decreases-bracketed_before_arrow
decreases-bracketed_before_arrow l = 5 * (length l.tokens.now - l.at.at) + 1

abbrev pub decreases-behind_first : goal.decreases-behind_first
decreases-behind_first l = 5 * (length l.tokens.now - l.at.at) + 1

abbrev pub decreases-behind_only : goal.decreases-behind_only
decreases-behind_only l = 5 * (length l.tokens.now - l.at.at) + 0

abbrev pub decreases-result_before_arrow : goal.decreases-result_before_arrow
decreases-result_before_arrow l = 5 * (length l.tokens.now - l.at.at) + 0
