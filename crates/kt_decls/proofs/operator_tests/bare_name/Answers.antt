use Rattle.std.proofs.Common.{sym, ◌∙◌, drop}
use Rattle.grammars.specs.Grammar.{first}
use Rattle.std.proofs.lemmas.Result.{err_from_is_err_and}
use Rattle.kt_grammar.specs.Parsed.{halt_memory}
use Rattle.kt_decls.proofs.LoneNames.{closing, no_postfix, bare_name}
use Rattle.kt_grammar.proofs.SingleTokens.{takes_name}
use Rattle.kt_decls.proofs.operator_tests.bare_name.Goals as goal

pub returns-then-not-goes_on : goal.returns-then-not-goes_on
returns-then-not-goes_on c = no_postfix c.requires (closing (first (drop c.args.at.at c.args.tokens.now)) (sym c.goes_on.ensures ∙ c.if-not-goes_on.true)) c.fault.ensures

pub returns-in_default : goal.returns-in_default
returns-in_default c = halt_memory

pub returns-in_err-look : goal.returns-in_err-look
returns-in_err-look c = let p = err_from_is_err_and c.from_residual.result c.from_residual.ensures.1 in rw (p.1, p.2) (halt_memory)

pub returns-then-not-is_bare : goal.returns-then-not-is_bare
returns-then-not-is_bare c = halt_memory

pub returns : goal.returns
returns c =
    bare_name c.to.result c.in_ok-look.look.holds c.in_ok-look.look.end (takes_name c.args.tokens.now c.args.at.at c.in-Some.word c.in-Some.ensures)
    c.in_ok-look.ensures.0 c.in_ok-look.ensures.1 (sym c.is_bare.ensures ∙ c.if-not-is_bare.false) c.to.ensures
