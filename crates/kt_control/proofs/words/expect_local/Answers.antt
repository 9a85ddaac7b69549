use Rattle.std.proofs.Common.{refl, sym, ◌∙◌}
use Rattle.kt_lexer.specs.declared.token.Keyword.TheVariants as keyword
use Rattle.kt_grammar.specs.Tokens.{is_local}
use Rattle.kt_grammar.proofs.Advances.{not_one}
use Rattle.kt_grammar.proofs.SingleTokens.{word_token}
use Rattle.kt_control.proofs.TokenMoves.{moved_one}
use Rattle.kt_control.proofs.words.expect_local.Goals as goal

pub returns-then-begins_local : goal.returns-then-begins_local
returns-then-begins_local c = moved_one is_local c.args.tokens.now c.args.at c.to.result (sym c.begins_local.ensures ∙ c.if-begins_local.true) c.to.ensures

pub returns : goal.returns
returns c = not_one (word_token keyword.Val) refl c.requires (sym c.begins_local.ensures ∙ c.if-begins_local.false) c.fault.ensures
