use Rattle.std.proofs.Common.{drop}
use Rattle.std.proofs.lemmas.Result.{err_from_is_err_and}
use Rattle.grammars.specs.Grammar.{first}
use Rattle.kt_grammar.specs.Parsed.{halt_memory}
use Rattle.kt_control.proofs.JumpRows.{return_value_from}
use Rattle.kt_control.proofs.jumps.return_value.Goals as goal

pub returns-in_err-found : goal.returns-in_err-found
returns-in_err-found g c = let p = err_from_is_err_and c.from_residual.result c.from_residual.ensures.1 in rw (p.1, p.2) c.in_err-found.ensures

pub returns-in_err-value : goal.returns-in_err-value
returns-in_err-value g c = let p = err_from_is_err_and c.from_residual-in_err-value.result c.from_residual-in_err-value.ensures.1 in rw (p.1, p.2) (halt_memory)

pub returns : goal.returns
returns g c = return_value_from (first (drop c.args.start c.args.bodies.now.tokens.now)) c.args.label c.in_ok-found.ensures c.across-span.ensures c.in_ok-value.ensures c.returned.ensures
