use Rattle.std.proofs.Common.{sym, ◌∙◌}
use Rattle.kt_grammar.proofs.Steps.{takes_one}
use Rattle.kt_grammar.specs.Tokens.{is_of}
use Rattle.kt_grammar.proofs.tokens.eat.Goals as goal

pub returns-then-is_at : goal.returns-then-is_at
returns-then-is_at c = takes_one (is_of c.args.wanted) c.args.tokens.now c.args.at (sym c.is_at.ensures ∙ c.if-is_at.true)
