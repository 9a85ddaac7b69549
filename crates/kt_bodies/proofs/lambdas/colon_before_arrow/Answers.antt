use Rattle.std.proofs.lemmas.Result.{err_from_is_err_and}
use Rattle.kt_grammar.proofs.Advances.{halts_left, halts_after}
use Rattle.kt_grammar.proofs.Steps.{standing}
use Rattle.kt_bodies.proofs.LambdaRows.{no_type_written, type_written}
use Rattle.kt_bodies.proofs.lambdas.colon_before_arrow.Goals as goal

pub returns-in_default : goal.returns-in_default
returns-in_default c = no_type_written c.requires c.in_default.ensures

pub returns-in_err-ty : goal.returns-in_err-ty
returns-in_err-ty c = let p = err_from_is_err_and c.from_residual.result c.from_residual.ensures.1 in rw (p.1, p.2) (halts_left c.requires (standing c.in-Some.ensures.taken) (halts_after c.in-Some.ensures.taken c.in-Some.ensures.so_far c.in_err-ty.ensures))

pub returns : goal.returns
returns c = type_written c.in-Some.ensures c.in_ok-ty.ensures
