use Rattle.std.proofs.Common.{refl}
use Rattle.kt_lexer.specs.declared.token.Keyword.TheVariants as keyword
use Rattle.kt_grammar.proofs.Advances.{not_one}
use Rattle.kt_grammar.proofs.SingleTokens.{word_token}
use Rattle.kt_functions.proofs.ModifierRows.{modifier_moved}
use Rattle.kt_functions.proofs.modifier_words.expect_modifier.Goals as goal

pub returns-in-Some : goal.returns-in-Some
returns-in-Some c = modifier_moved c.to.result c.in-Some.ensures c.to.ensures

pub returns-in-None : goal.returns-in-None
returns-in-None c = not_one (word_token keyword.In) refl c.requires c.in-None.ensures c.fault.ensures
