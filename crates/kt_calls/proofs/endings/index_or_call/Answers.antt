use Rattle.std.proofs.Common.{refl, sym, ◌∙◌}
use Rattle.kt_lexer.specs.declared.token.Operator.TheVariants as operator
use Rattle.kt_grammar.specs.Tokens.{is_op, unmarked}
use Rattle.kt_calls.specs.Suffixes.{index, index_of, any_call, any_call_of, index_or_call_of}
use Rattle.kt_grammar.proofs.Advances.{chosen_first, chosen_second}
use Rattle.kt_calls.proofs.endings.index_or_call.Goals as goal

pub returns-then-is_mark_at : goal.returns-then-is_mark_at
returns-then-is_mark_at g c = chosen_first (unmarked (is_op operator.OpenSquare)) index any_call index_of index_or_call_of (λ x. refl) c.args.bodies.now.tokens.now c.args.at c.requires.within (sym c.is_mark_at.ensures ∙ c.if-is_mark_at.true) c.index.result c.index.ensures

pub returns : goal.returns
returns g c = chosen_second (unmarked (is_op operator.OpenSquare)) index any_call any_call_of index_or_call_of (λ x. refl) c.args.bodies.now.tokens.now c.args.at c.requires.within (sym c.is_mark_at.ensures ∙ c.if-is_mark_at.false) c.any_call.result c.any_call.ensures
