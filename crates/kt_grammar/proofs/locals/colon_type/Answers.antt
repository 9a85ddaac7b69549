use Rattle.std.proofs.lemmas.Result.{err_from_is_err_and}
use Rattle.kt_grammar.proofs.Steps.{standing, fails_left, fails_after}
use Rattle.kt_grammar.proofs.NameRows.{no_type_written, type_written}
use Rattle.kt_grammar.proofs.locals.colon_type.Goals as goal

pub returns-in_default : goal.returns-in_default
returns-in_default c = no_type_written c.requires c.in_default.ensures

pub returns-in_err-ty : goal.returns-in_err-ty
returns-in_err-ty c = let p = err_from_is_err_and c.from_residual.result c.from_residual.ensures.1 in rw (p.1, p.2) (fails_left (standing c.in-Some.ensures) (fails_after c.in-Some.ensures c.in_err-ty.ensures))

pub returns : goal.returns
returns c = type_written c.in-Some.ensures c.in_ok-ty.ensures
