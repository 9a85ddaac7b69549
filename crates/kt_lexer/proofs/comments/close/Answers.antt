use Rattle.std.proofs.Common.{◌≡◌, suc, ◌-◌, arith, ap, ◌∙◌}
use Rattle.kt_lexer.specs.Comments.{mark_of}
use Rattle.kt_lexer.proofs.Nesting.{at_close, at_open, at_plain, deeper_by}
use Rattle.kt_lexer.proofs.comments.close.Goals as goal

pub loop-at-preserved-in-Closes : goal.loop-at-preserved-in-Closes
loop-at-preserved-in-Closes c =
    let e : c.loop-at.depth ≡ suc (c.loop-at.depth - 1) = omega arith in
    at_close (deeper_by e c.loop-at.invariant) (c.in-Closes.ensures ∙ ap mark_of c.text_from.ensures)

pub loop-at-preserved-in-Opens : goal.loop-at-preserved-in-Opens
loop-at-preserved-in-Opens c = at_open c.loop-at.invariant (c.in-Opens.ensures ∙ ap mark_of c.text_from.ensures)

pub loop-at-preserved : goal.loop-at-preserved
loop-at-preserved c = at_plain c.loop-at.invariant (c.in-Plain.ensures ∙ ap mark_of c.text_from.ensures)
