use Rattle.std.proofs.lemmas.Result.{err_from_is_err_and}
use Rattle.kt_grammar.specs.Built as built
use Rattle.kt_grammar.specs.Parsed.{halt_memory}
use Rattle.kt_grammar.proofs.OperatorRows.{built_on}
use Rattle.kt_grammar.proofs.operators.Operators.contained_in.Goals as goal

pub returns-in_err-right : goal.returns-in_err-right
returns-in_err-right g c = let p = err_from_is_err_and c.from_residual.result c.from_residual.ensures.1 in rw (p.1, p.2) (c.in_err-right.ensures)

pub returns-in_err-whole : goal.returns-in_err-whole
returns-in_err-whole g c = let p = err_from_is_err_and c.from_residual-in_err-whole.result c.from_residual-in_err-whole.ensures.1 in rw (p.1, p.2) (halt_memory)

pub returns : goal.returns
returns g c = built_on (built.contained c.args.left c.args.token.now) c.in_ok-whole.whole c.in_ok-right.ensures c.in_ok-whole.ensures
