use Rattle.std.proofs.Common.{drop, sym, ◌∙◌}
use Rattle.std.proofs.lemmas.Result.{err_from_is_err_and}
use Rattle.grammars.specs.Grammar.{first}
use Rattle.kt_grammar.proofs.Advances.{halts_left, halts_right, halts_first}
use Rattle.kt_members.proofs.GetterRows.{braces_then, value_then}
use Rattle.kt_members.proofs.SetterRows.{has_behind_block, has_behind_value}
use Rattle.kt_members.proofs.getters.behind_head.Goals as goal

pub returns-in_err-getter : goal.returns-in_err-getter
returns-in_err-getter c = let p = err_from_is_err_and c.from_residual.result c.from_residual.ensures.1 in rw (p.1, p.2)
    (halts_left c.requires.within (sym c.is_op_at.ensures ∙ c.if-is_op_at.true) (halts_first (has_behind_block c.args.is_var) c.in_err-getter.ensures))

pub returns-then-is_op_at : goal.returns-then-is_op_at
returns-then-is_op_at c = braces_then (first (drop c.args.start c.args.tokens.now)) c.args.ty c.args.is_var c.requires.within (sym c.is_op_at.ensures ∙ c.if-is_op_at.true) c.in_ok-getter.ensures c.braces_and_setter.result c.braces_and_setter.ensures

pub returns-in_err-getter-2 : goal.returns-in_err-getter-2
returns-in_err-getter-2 c = let p = err_from_is_err_and c.from_residual-in_err-getter-2.result c.from_residual-in_err-getter-2.ensures.1 in rw (p.1, p.2)
    (halts_right c.requires.within (sym c.is_op_at.ensures ∙ c.if-is_op_at.false) (halts_first (has_behind_value c.args.is_var) c.in_err-getter-2.ensures))

pub returns : goal.returns
returns c = value_then (first (drop c.args.start c.args.tokens.now)) c.args.ty c.args.is_var c.requires.within (sym c.is_op_at.ensures ∙ c.if-is_op_at.false) c.in_ok-getter-2.ensures c.value_and_setter.result c.value_and_setter.ensures
