use Rattle.std.proofs.lemmas.Result.{err_from_is_err_and}
use Rattle.kt_grammar.specs.DeclarationsBuilt as built
use Rattle.kt_grammar.specs.Rows as rows
use Rattle.kt_members.proofs.GetterRows.{with_setter}
use Rattle.kt_members.proofs.getters.value_and_setter.Goals as goal

pub returns-in_err-setter : goal.returns-in_err-setter
returns-in_err-setter c = let p = err_from_is_err_and c.from_residual.result c.from_residual.ensures.1 in rw (p.1, p.2) (c.in_err-setter.ensures)

pub returns : goal.returns
returns c = with_setter (rows.setter_behind_value c.args.is_var) built.setter_behind_value_of c.args.getter c.in_ok-setter.ensures
