use Rattle.std.proofs.Common.{arith}
use Rattle.std.proofs.lemmas.Result.{err_from_is_err_and}
use Rattle.kt_grammar.specs.Parsed.{halt_memory}
use Rattle.kt_grammar.proofs.PrefixRows.{wrap_more}
use Rattle.kt_grammar.proofs.prefixes.wrapped.Goals as goal

pub returns-in_err-of : goal.returns-in_err-of
returns-in_err-of c = let p = err_from_is_err_and c.from_residual.result c.from_residual.ensures.1 in rw (p.1, p.2) (halt_memory)

pub loop-at-preserved : goal.loop-at-preserved
loop-at-preserved c = wrap_more c.to.result c.loop-at.invariant (omega arith) (omega arith) c.to.ensures c.in-Some.ensures c.in_ok-of.ensures

pub returns-in_default : goal.returns-in_default
returns-in_default c = halt_memory
