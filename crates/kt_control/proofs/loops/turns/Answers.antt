use Rattle.std.proofs.Common.{drop, sym, ◌∙◌}
use Rattle.grammars.specs.Grammar.{first}
use Rattle.kt_control.proofs.LoopRows.{turns_for, turns_while, turns_do}
use Rattle.kt_control.proofs.loops.turns.Goals as goal

pub returns-then-is_word_at : goal.returns-then-is_word_at
returns-then-is_word_at g c =
    turns_for (first (drop c.args.start c.args.bodies.now.tokens.now)) c.args.label c.args.bodies.now.tokens.now c.args.at c.requires.within (sym c.is_word_at.ensures ∙ c.if-is_word_at.true) c.for_.result c.for_.ensures

pub returns-then-is_word_at-2 : goal.returns-then-is_word_at-2
returns-then-is_word_at-2 g c =
    turns_while (first (drop c.args.start c.args.bodies.now.tokens.now)) c.args.label c.args.bodies.now.tokens.now c.args.at c.requires.within (sym c.is_word_at.ensures ∙ c.if-is_word_at.false) (sym c.is_word_at-2.ensures ∙ c.if-is_word_at-2.true) c.while_.result c.while_.ensures

pub returns : goal.returns
returns g c =
    turns_do (first (drop c.args.start c.args.bodies.now.tokens.now)) c.args.label c.args.bodies.now.tokens.now c.args.at c.requires.within (sym c.is_word_at.ensures ∙ c.if-is_word_at.false) (sym c.is_word_at-2.ensures ∙ c.if-is_word_at-2.false) c.do_.result c.do_.ensures
