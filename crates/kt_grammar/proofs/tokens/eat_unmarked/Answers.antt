use Rattle.std.proofs.Common.{sym, ◌∙◌}
use Rattle.kt_grammar.proofs.Steps.{takes_one}
use Rattle.kt_grammar.specs.Tokens.{is_of, unmarked}
use Rattle.kt_grammar.proofs.tokens.eat_unmarked.Goals as goal

pub returns-then-is_unmarked_at : goal.returns-then-is_unmarked_at
returns-then-is_unmarked_at c = takes_one (unmarked (is_of c.args.wanted)) c.args.tokens.now c.args.at (sym c.is_unmarked_at.ensures ∙ c.if-is_unmarked_at.true)
