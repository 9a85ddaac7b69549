use Rattle.std.proofs.Common.{sym, ◌∙◌}
use Rattle.std.proofs.lemmas.Result.{err_from_is_err_and}
use Rattle.kt_grammar.specs.Parsed.{halt_memory}
use Rattle.kt_control.proofs.LocalRows.{end_valued, end_bare}
use Rattle.kt_control.proofs.locals.type_end.Goals as goal

pub returns-in_err-all : goal.returns-in_err-all
returns-in_err-all g c = let p = err_from_is_err_and c.from_residual.result c.from_residual.ensures.1 in rw (p.1, p.2) (halt_memory)

pub returns-then-is_op_at : goal.returns-then-is_op_at
returns-then-is_op_at g c =
    end_valued c.args.name c.args.ty c.args.place c.in_ok-all.all c.args.bodies.now.tokens.now c.args.at c.requires.within (sym c.is_op_at.ensures ∙ c.if-is_op_at.true) c.in_ok-all.ensures c.with_value.result c.with_value.ensures

pub returns : goal.returns
returns g c = end_bare c.args.name c.args.ty c.args.place c.requires.within (sym c.is_op_at.ensures ∙ c.if-is_op_at.false) c.in_ok-all.ensures
