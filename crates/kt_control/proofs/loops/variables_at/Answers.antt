use Rattle.std.proofs.Common.{◌++◌, sym, ◌∙◌}
use Rattle.std.proofs.lemmas.Result.{err_from_is_err_and}
use Rattle.grammars.specs.Grammar.{row}
use Rattle.kt_grammar.specs.Built as built
use Rattle.kt_grammar.specs.Rows as rows
use Rattle.kt_grammar.proofs.Advances.{halts_right}
use Rattle.kt_grammar.proofs.OperandRows.{from_near}
use Rattle.kt_control.proofs.LoopRows.{variables_round, variables_one}
use Rattle.kt_control.proofs.loops.variables_at.Goals as goal

pub returns-then-is_op_at : goal.returns-then-is_op_at
returns-then-is_op_at c = variables_round c.args.tokens.now c.args.at c.requires (sym c.is_op_at.ensures ∙ c.if-is_op_at.true) c.bare.result c.bare.ensures

pub returns-in_err-names : goal.returns-in_err-names
returns-in_err-names c = let p = err_from_is_err_and c.from_residual.result c.from_residual.ensures.1 in rw (p.1, p.2) (halts_right c.requires (sym c.is_op_at.ensures ∙ c.if-is_op_at.false)
    (from_near (row rows.typed_name) (λ x. c.new-none.result ++ built.typed_name_of x) c.args.tokens.now c.args.at c.typed_name.result _ c.in_err-names.ensures c.typed_name.ensures))

pub returns : goal.returns
returns c = variables_one (sym c.is_op_at.ensures ∙ c.if-is_op_at.false) c.new-none.ensures
    (from_near (row rows.typed_name) (λ x. c.new-none.result ++ built.typed_name_of x) c.args.tokens.now c.args.at c.typed_name.result _ c.in_ok-names.ensures c.typed_name.ensures)
