use Rattle.std.proofs.lemmas.Result.{err_from_is_err_and}
use Rattle.kt_grammar.specs.Parsed.{halt_memory}
use Rattle.kt_grammar.proofs.ArgumentRows.{argument_from, argument_halts}
use Rattle.kt_grammar.proofs.arguments.Operands.argument.Goals as goal

pub returns-in_err-value : goal.returns-in_err-value
returns-in_err-value g c =
    let p = err_from_is_err_and c.from_residual.result c.from_residual.ensures.1 in rw (p.1, p.2) (argument_halts c.name_before-name.ensures c.star_before-spread.ensures c.in_err-value.ensures)

pub returns-in_err-push : goal.returns-in_err-push
returns-in_err-push g c = let p = err_from_is_err_and c.from_residual-in_err-push.result c.from_residual-in_err-push.ensures.1 in rw (p.1, p.2) (halt_memory)

pub returns : goal.returns
returns g c = argument_from c.args.before c.push.new.self c.name_before-name.ensures c.star_before-spread.ensures c.in_ok-value.ensures c.span_between-span.ensures c.in_ok-push.ensures.ok
