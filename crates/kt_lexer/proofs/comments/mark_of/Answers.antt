use Rattle.std.proofs.Common.{◌∙◌}
use Rattle.kt_lexer.proofs.Nesting.{short_mark, long_mark}
use Rattle.kt_lexer.proofs.comments.mark_of.Goals as goal

pub returns-then-text-lt2 : goal.returns-then-text-lt2
returns-then-text-lt2 c = short_mark c.args.text.now c.if-text-lt2.true

pub returns : goal.returns
returns c = c.in_front.ensures ∙ long_mark c.args.text.now c.if-text-lt2.false
