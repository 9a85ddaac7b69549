use Rattle.std.proofs.Common.{◌<◌, length, sym, ap₂, ◌∙◌, arith}
use Rattle.class_file.specs.WrittenClass.{has_text, is_this}
use Rattle.class_writer.specs.Indexes.{first_of, only_if}
use Rattle.class_writer.proofs.Slots.{index_more}
use Rattle.class_writer.proofs.names.texts_of.Goals as goal

pub loop-index-preserved : goal.loop-index-preserved
loop-index-preserved c = λ t.
    let lt : c.loop-index.index < length c.args.pool.now = omega (arith, c.loop-index-test.true, c.count-index-end.ensures) in
    c.in_ok-note.ensures t
    ∙ ap₂ (λ old found. first_of old (only_if (is_this t found) c.loop-index.index)) (c.loop-index.invariant t) c.text_at.ensures
    ∙ sym (index_more (has_text t) c.args.pool.now c.loop-index.index lt)
