use Rattle.std.proofs.Common.{refl, drop}
use Rattle.std.proofs.lemmas.Result.{err_from_is_err_and}
use Rattle.grammars.specs.Grammar.{first}
use Rattle.kt_lexer.specs.declared.token.Operator.TheVariants as operator
use Rattle.kt_grammar.specs.Parsed.{halt_memory}
use Rattle.kt_grammar.proofs.Advances.{halts_first, halts_after, not_one}
use Rattle.kt_grammar.proofs.SingleTokens.{op_token}
use Rattle.kt_grammar.proofs.TypeRows.{has_name}
use Rattle.kt_functions.proofs.ReceiverRows.{dot_from}
use Rattle.kt_functions.proofs.receivers.dot_name.Goals as goal

pub returns-in_default : goal.returns-in_default
returns-in_default c = halts_first has_name (not_one (op_token operator.Dot) refl c.requires c.in_default.ensures c.fault.ensures)

pub returns-in_err-ty : goal.returns-in_err-ty
returns-in_err-ty c = let p = err_from_is_err_and c.from_residual.result c.from_residual.ensures.1 in rw (p.1, p.2) (halt_memory)

pub returns-in_err-name : goal.returns-in_err-name
returns-in_err-name c = let p = err_from_is_err_and c.from_residual-in_err-name.result c.from_residual-in_err-name.ensures.1 in rw (p.1, p.2) (let o = c.in-Some.ensures in halts_after o.taken o.so_far c.in_err-name.ensures)

pub returns : goal.returns
returns c = dot_from (first (drop c.args.start c.args.tokens.now)) c.args.ty c.in-Some.ensures c.in_ok-ty.ensures c.in_ok-name.ensures
