use Rattle.std.proofs.lemmas.Result.{err_from_is_err_and}
use Rattle.kt_lexer.specs.declared.token.Operator.TheVariants as operator
use Rattle.kt_grammar.specs.Parsed.{halt_memory}
use Rattle.kt_grammar.proofs.Advances.{halts_first, halts_second, halts_after}
use Rattle.kt_grammar.proofs.OperatorRows.{has_expression}
use Rattle.kt_grammar.proofs.Steps.{has_both}
use Rattle.kt_grammar.proofs.TypeRows.{has_op}
use Rattle.kt_parser.proofs.PrimaryRows.{bracket_from}
use Rattle.kt_parser.proofs.primary.bracket.Goals as goal

pub returns-in_err-open : goal.returns-in_err-open
returns-in_err-open g c = let p = err_from_is_err_and c.from_residual.result c.from_residual.ensures.1 in rw (p.1, p.2) (halts_first (has_both has_expression (has_op operator.CloseRound)) c.in_err-open.ensures)

pub returns-in_err-of : goal.returns-in_err-of
returns-in_err-of g c = let p = err_from_is_err_and c.from_residual-in_err-of.result c.from_residual-in_err-of.ensures.1 in rw (p.1, p.2) (let o = c.in_ok-open.ensures in halts_after o.taken o.so_far (halts_first (has_op operator.CloseRound) c.in_err-of.ensures))

pub returns-in_err-close : goal.returns-in_err-close
returns-in_err-close g c = let p = err_from_is_err_and c.from_residual-in_err-close.result c.from_residual-in_err-close.ensures.1 in rw (p.1, p.2) (let o = c.in_ok-open.ensures in let q = c.in_ok-of.ensures in halts_after o.taken o.so_far (halts_second q.read q.so_far c.in_err-close.ensures))

pub returns-in_err-whole : goal.returns-in_err-whole
returns-in_err-whole g c = let p = err_from_is_err_and c.from_residual-in_err-whole.result c.from_residual-in_err-whole.ensures.1 in rw (p.1, p.2) (halt_memory)

pub returns : goal.returns
returns g c = bracket_from c.in_ok-open.ensures c.in_ok-of.ensures c.in_ok-close.ensures c.span_between-span.ensures c.in_ok-whole.ensures
