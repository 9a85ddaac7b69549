use Rattle.std.proofs.Common.{refl, sym, ◌∙◌}
use Rattle.kt_lexer.specs.declared.token.Keyword.TheVariants as keyword
use Rattle.kt_grammar.specs.Tokens.{is_break}
use Rattle.kt_grammar.proofs.Advances.{not_one}
use Rattle.kt_grammar.proofs.SingleTokens.{word_token}
use Rattle.kt_control.proofs.TokenMoves.{moved_one}
use Rattle.kt_control.proofs.words.expect_break.Goals as goal

pub returns-then-begins_break : goal.returns-then-begins_break
returns-then-begins_break c = moved_one is_break c.args.tokens.now c.args.at c.to.result (sym c.begins_break.ensures ∙ c.if-begins_break.true) c.to.ensures

pub returns : goal.returns
returns c = not_one (word_token keyword.Break) refl c.requires (sym c.begins_break.ensures ∙ c.if-begins_break.false) c.fault.ensures
