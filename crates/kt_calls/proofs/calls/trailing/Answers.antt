use Rattle.std.proofs.lemmas.Result.{err_from_is_err_and}
use Rattle.kt_grammar.specs.Parsed.{halt_memory}
use Rattle.kt_grammar.proofs.Advances.{halts_row, halts_second}
use Rattle.kt_calls.proofs.CallRows.{trailing_from}
use Rattle.kt_calls.proofs.calls.trailing.Goals as goal

pub returns-in_err-value : goal.returns-in_err-value
returns-in_err-value g c = let p = err_from_is_err_and c.from_residual.result c.from_residual.ensures.1 in rw (p.1, p.2) (let l = c.label_before-label.ensures in halts_row (halts_second l.read l.so_far c.in_err-value.ensures))

pub returns-in_err-push : goal.returns-in_err-push
returns-in_err-push g c = let p = err_from_is_err_and c.from_residual-in_err-push.result c.from_residual-in_err-push.ensures.1 in rw (p.1, p.2) (halt_memory)

pub returns : goal.returns
returns g c = trailing_from c.args.before c.push.new.self c.trailing_argument.result c.label_before-label.ensures c.in_ok-value.ensures c.span_between-span.ensures c.trailing_argument.ensures c.in_ok-push.ensures.ok
