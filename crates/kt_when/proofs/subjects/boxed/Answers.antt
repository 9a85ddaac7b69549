use Rattle.std.proofs.lemmas.Result.{err_from_is_err_and}
use Rattle.kt_grammar.specs.Parsed.{halt_memory}
use Rattle.kt_when.proofs.SubjectRows.{built_as}
use Rattle.kt_when.proofs.subjects.boxed.Goals as goal

pub returns-in_err-value : goal.returns-in_err-value
returns-in_err-value g c = let p = err_from_is_err_and c.from_residual.result c.from_residual.ensures.1 in rw (p.1, p.2) c.in_err-value.ensures

pub returns-in_err-value-2 : goal.returns-in_err-value-2
returns-in_err-value-2 g c = let p = err_from_is_err_and c.from_residual-in_err-value-2.result c.from_residual-in_err-value-2.ensures.1 in rw (p.1, p.2) (halt_memory)

pub returns : goal.returns
returns g c = built_as c.in_ok-value.ensures c.in_ok-value-2.ensures
