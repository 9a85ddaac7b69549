use Rattle.std.proofs.Common.{sym, ◌∙◌}
use Rattle.kt_grammar.proofs.OperatorRows.{infix_from, infix_wanted}
use Rattle.kt_grammar.proofs.operators.Operators.infix_operand.Goals as goal

pub returns-then-not-begins_operand : goal.returns-then-not-begins_operand
returns-then-not-begins_operand g c = infix_wanted c.requires.within (sym c.begins_operand.ensures ∙ c.if-not-begins_operand.true) c.fault.ensures

pub returns : goal.returns
returns g c = infix_from c.args.self.now.tokens.now c.args.at c.requires.within (sym c.begins_operand.ensures ∙ c.if-not-begins_operand.false) c.range.result c.range.ensures
