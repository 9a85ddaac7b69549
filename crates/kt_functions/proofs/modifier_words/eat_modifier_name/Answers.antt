use Rattle.std.proofs.Common.{sym, ◌∙◌}
use Rattle.kt_grammar.specs.Tokens.{is_modifier_name}
use Rattle.kt_grammar.proofs.Steps.{takes_one}
use Rattle.kt_functions.proofs.modifier_words.eat_modifier_name.Goals as goal

pub returns-then-is_modifier_name_at : goal.returns-then-is_modifier_name_at
returns-then-is_modifier_name_at c = takes_one is_modifier_name c.args.tokens.now c.args.at (sym c.is_modifier_name_at.ensures ∙ c.if-is_modifier_name_at.true)
