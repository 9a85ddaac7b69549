use Rattle.std.proofs.Common.{sym, ◌∙◌}
use Rattle.std.proofs.lemmas.Result.{err_from_is_err_and}
use Rattle.kt_class_heads.proofs.ConstructorRows.{no_constructor, constructor_from, constructor_halts}
use Rattle.kt_class_heads.proofs.constructors.primary_constructor.Goals as goal

pub returns-then-not-begins : goal.returns-then-not-begins
returns-then-not-begins c = no_constructor c.requires.within (sym c.begins.ensures ∙ c.if-not-begins.true)

pub returns-in_err-all : goal.returns-in_err-all
returns-in_err-all c =
    let p = err_from_is_err_and c.from_residual.result c.from_residual.ensures.1 in
    rw (p.1, p.2) (constructor_halts c.requires.within (sym c.begins.ensures ∙ c.if-not-begins.false) c.in_err-all.ensures)

pub returns : goal.returns
returns c = constructor_from (sym c.begins.ensures ∙ c.if-not-begins.false) c.in_ok-all.ensures
