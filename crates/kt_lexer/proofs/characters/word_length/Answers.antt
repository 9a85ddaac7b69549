use Rattle.std.proofs.Common.{◌∙◌, ◌≤◌, ap, sym, arith, rules}
use Rattle.kt_lexer.specs.Characters.{part_length}
use Rattle.kt_lexer.proofs.Runs.{read_more, read_end}
use Rattle.kt_lexer.proofs.characters.word_length.Goals as goal

pub returns-then-length-eq0-clause-value : goal.returns-then-length-eq0-clause-value
returns-then-length-eq0-clause-value c =
    let e = c.part_length-length.ensures ∙ ap part_length c.text_from.ensures in
    read_end c.loop-at.invariant (sym e ∙ c.if-length-eq0.true)

pub overflow_add-at : goal.overflow_add-at
overflow_add-at c =
    let e = c.part_length-length.ensures ∙ ap part_length c.text_from.ensures in
    let some : 1 ≤ c.part_length-length.result = grind (arith, c.if-length-eq0.false) in
    let r = read_more c.loop-at.invariant e some in
    let w = r.within in
    search rules

pub loop-at-preserved : goal.loop-at-preserved
loop-at-preserved c =
    let e = c.part_length-length.ensures ∙ ap part_length c.text_from.ensures in
    read_more c.loop-at.invariant e (grind (arith, c.if-length-eq0.false))
