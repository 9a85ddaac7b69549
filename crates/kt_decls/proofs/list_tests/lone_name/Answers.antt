use Rattle.std.proofs.Common.{sym, ◌∙◌, ◌+◌, drop}
use Rattle.grammars.specs.Grammar.{first}
use Rattle.kt_grammar.specs.Parsed.{halt_memory}
use Rattle.kt_decls.proofs.LoneNames.{closing, none_begins, name_alone}
use Rattle.kt_grammar.proofs.SingleTokens.{takes_name}
use Rattle.kt_decls.proofs.list_tests.lone_name.Goals as goal

pub returns-then-not-goes_on : goal.returns-then-not-goes_on
returns-then-not-goes_on c = none_begins c.requires (closing (first (drop c.args.at.at c.args.tokens.now)) (sym c.goes_on.ensures ∙ c.if-not-goes_on.true)) c.fault.ensures

pub returns-in_default : goal.returns-in_default
returns-in_default c = halt_memory

pub returns-then-goes_on : goal.returns-then-goes_on
returns-then-goes_on c = halt_memory

pub returns : goal.returns
returns c =
    name_alone c.to.result (takes_name c.args.tokens.now c.args.at.at c.in-Some.word c.in-Some.ensures)
    (closing (first (drop (c.args.at.at + 1) c.args.tokens.now)) (sym c.goes_on-2.ensures ∙ c.if-goes_on.false)) c.to.ensures
