use Rattle.std.proofs.Common.{refl, sym, ◌∙◌}
use Rattle.kt_grammar.specs.Tokens.{is_dot}
use Rattle.kt_calls.specs.Suffixes.{member, member_of, index_or_call, index_or_call_of, member_or_more_of}
use Rattle.kt_grammar.proofs.Advances.{chosen_first, chosen_second}
use Rattle.kt_calls.proofs.endings.member_or_more.Goals as goal

pub returns-then-is_mark_at : goal.returns-then-is_mark_at
returns-then-is_mark_at g c = chosen_first is_dot member index_or_call member_of member_or_more_of (λ x. refl) c.args.bodies.now.tokens.now c.args.at c.requires.within (sym c.is_mark_at.ensures ∙ c.if-is_mark_at.true) c.member.result c.member.ensures

pub returns : goal.returns
returns g c = chosen_second is_dot member index_or_call index_or_call_of member_or_more_of (λ x. refl) c.args.bodies.now.tokens.now c.args.at c.requires.within (sym c.is_mark_at.ensures ∙ c.if-is_mark_at.false) c.index_or_call.result c.index_or_call.ensures
