use Rattle.std.proofs.Common.{sym, ◌∙◌}
use Rattle.grammars.specs.Grammar.{row}
use Rattle.kt_grammar.specs.Rows as rows
use Rattle.kt_grammar.specs.TypesBuilt as built
use Rattle.kt_grammar.proofs.OperandRows.{name_part, core_bracketed, core_named, from_near}
use Rattle.kt_grammar.proofs.operands.operand_core.Goals as goal

pub returns-then-is_op_at : goal.returns-then-is_op_at
returns-then-is_op_at c =
    core_bracketed rows.bracketed_type name_part c.args.tokens.now c.args.at c.requires (sym c.is_op_at.ensures ∙ c.if-is_op_at.true) c.behind.result
    (from_near (row rows.bracketed_type) built.in_brackets_of c.args.tokens.now c.args.at c.bracketed_type.result c.behind.result c.behind.ensures c.bracketed_type.ensures)

pub returns : goal.returns
returns c = core_named rows.bracketed_type name_part c.args.tokens.now c.args.at c.requires (sym c.is_op_at.ensures ∙ c.if-is_op_at.false) c.operand_name.result c.operand_name.ensures
