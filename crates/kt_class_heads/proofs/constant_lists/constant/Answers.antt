use Rattle.std.proofs.lemmas.Result.{err_from_is_err_and}
use Rattle.kt_grammar.specs.Parsed.{halt_memory}
use Rattle.kt_grammar.proofs.Advances.{halts_row, halts_first, halts_after}
use Rattle.kt_class_heads.proofs.ArgumentRows.{has_no_arguments}
use Rattle.kt_class_heads.proofs.ConstantRows.{constant_from}
use Rattle.kt_class_heads.proofs.constant_lists.constant.Goals as goal

pub returns-in_err-name : goal.returns-in_err-name
returns-in_err-name c = let p = err_from_is_err_and c.from_residual.result c.from_residual.ensures.1 in rw (p.1, p.2) (halts_row (halts_first has_no_arguments c.in_err-name.ensures))

pub returns-in_err-args : goal.returns-in_err-args
returns-in_err-args c = let p = err_from_is_err_and c.from_residual-in_err-args.result c.from_residual-in_err-args.ensures.1 in rw (p.1, p.2) (halts_row (halts_after c.in_ok-name.ensures.taken c.in_ok-name.ensures.so_far c.in_err-args.ensures))

pub returns-in_err-push : goal.returns-in_err-push
returns-in_err-push c = let p = err_from_is_err_and c.from_residual-in_err-push.result c.from_residual-in_err-push.ensures.1 in rw (p.1, p.2) (halt_memory)

pub returns : goal.returns
returns c = constant_from c.args.before c.push.new.self c.in_ok-name.ensures c.in_ok-args.ensures c.span_between-span.ensures c.in_ok-push.ensures.ok
