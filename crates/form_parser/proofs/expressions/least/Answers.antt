use Rattle.std.proofs.Common.{sym, ◌∙◌}
use Rattle.form_parser.proofs.Readings.{no_least, other_least, widest_missed, not_minus}
use Rattle.form_parser.proofs.expressions.least.Goals as goal

pub returns-in-Not-clause-takes : goal.returns-in-Not-clause-takes
returns-in-Not-clause-takes c = λ w. not_minus c.in-Not.is w

pub returns-in_default-split_first-clause-takes : goal.returns-in_default-split_first-clause-takes
returns-in_default-split_first-clause-takes c = λ w. no_least c.args.tokens.now c.in_default-split_first.ensures.cases w

pub returns-then-not-is_widest-clause-takes : goal.returns-then-not-is_widest-clause-takes
returns-then-not-is_widest-clause-takes c = λ w. other_least c.in-Some.ensures.cases.0 (widest_missed {k = c.in-Some.first.now.kind} (sym c.is_widest.ensures ∙ c.if-not-is_widest.true)) w
