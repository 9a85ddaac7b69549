use Rattle.std.proofs.Common.{refl, sym, ◌∙◌}
use Rattle.kt_grammar.specs.Tokens.{is_postfix, unmarked}
use Rattle.kt_calls.specs.Suffixes.{postfix_operator, operator_of, member_or_more, member_or_more_of, ending_of}
use Rattle.kt_grammar.proofs.Advances.{chosen_first, chosen_second}
use Rattle.kt_calls.proofs.endings.ending.Goals as goal

pub returns-then-is_mark_at : goal.returns-then-is_mark_at
returns-then-is_mark_at g c = chosen_first (unmarked is_postfix) postfix_operator member_or_more operator_of ending_of (λ x. refl) c.args.bodies.now.tokens.now c.args.at c.requires.within (sym c.is_mark_at.ensures ∙ c.if-is_mark_at.true) c.postfix_operator.result c.postfix_operator.ensures

pub returns : goal.returns
returns g c = chosen_second (unmarked is_postfix) postfix_operator member_or_more member_or_more_of ending_of (λ x. refl) c.args.bodies.now.tokens.now c.args.at c.requires.within (sym c.is_mark_at.ensures ∙ c.if-is_mark_at.false) c.member_or_more.result c.member_or_more.ensures
