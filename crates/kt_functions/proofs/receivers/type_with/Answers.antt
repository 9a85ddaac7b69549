use Rattle.std.proofs.Common.{sym, ◌∙◌}
use Rattle.std.proofs.lemmas.Result.{err_from_is_err_and}
use Rattle.kt_grammar.specs.Parsed.{no_memory}
use Rattle.kt_grammar.proofs.Steps.{fails_left}
use Rattle.grammars.specs.Grammar.{first}
use Rattle.std.proofs.Common.{drop}
use Rattle.kt_functions.proofs.ReceiverRows.{bare_type, type_with_arguments}
use Rattle.kt_functions.proofs.receivers.type_with.Goals as goal

pub returns-in_err-bare : goal.returns-in_err-bare
returns-in_err-bare c = let p = err_from_is_err_and c.from_residual.result c.from_residual.ensures.1 in rw (p.1, p.2) (no_memory)

pub returns-then-not-is_op_at : goal.returns-then-not-is_op_at
returns-then-not-is_op_at c = bare_type (first (drop c.args.start c.args.tokens.now)) c.args.name c.requires (sym c.is_op_at.ensures ∙ c.if-not-is_op_at.true) c.in_ok-bare.ensures

pub returns-in_err-arguments : goal.returns-in_err-arguments
returns-in_err-arguments c = let p = err_from_is_err_and c.from_residual-in_err-arguments.result c.from_residual-in_err-arguments.ensures.1 in rw (p.1, p.2) (fails_left (sym c.is_op_at.ensures ∙ c.if-not-is_op_at.false) c.in_err-arguments.ensures)

pub returns-in_err-found : goal.returns-in_err-found
returns-in_err-found c = let p = err_from_is_err_and c.from_residual-in_err-found.result c.from_residual-in_err-found.ensures.1 in rw (p.1, p.2) (no_memory)

pub returns : goal.returns
returns c = type_with_arguments c.args.start c.args.name (sym c.is_op_at.ensures ∙ c.if-not-is_op_at.false) c.in_ok-arguments.ensures c.span_between-span.ensures c.in_ok-found.ensures
