use Rattle.std.proofs.lemmas.Result.{err_from_is_err_and}
use Rattle.kt_grammar.specs.Parsed.{halt_memory}
use Rattle.kt_grammar.proofs.Advances.{halts_row}
use Rattle.kt_class_heads.proofs.ParameterRows.{parameter_from}
use Rattle.kt_class_heads.proofs.parameters.constructor_parameter.Goals as goal

pub returns-in_err-parts : goal.returns-in_err-parts
returns-in_err-parts c = let p = err_from_is_err_and c.from_residual.result c.from_residual.ensures.1 in rw (p.1, p.2) (halts_row c.in_err-parts.ensures)

pub returns-in_err-push : goal.returns-in_err-push
returns-in_err-push c = let p = err_from_is_err_and c.from_residual-in_err-push.result c.from_residual-in_err-push.ensures.1 in rw (p.1, p.2) (halt_memory)

pub returns : goal.returns
returns c = parameter_from c.args.before c.push.new.self c.in_ok-parts.ensures c.span_between-span.ensures c.in_ok-push.ensures.ok
