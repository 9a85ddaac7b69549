use Rattle.kt_names.proofs.Words.{added}
use Rattle.kt_names.proofs.reserved.reserved_names.Goals as goal

pub loop-number-preserved : goal.loop-number-preserved
loop-number-preserved c = added c.loop-number.number c.loop-number.names c.add.new.self c.in_ok-word_text.field-0 c.loop-number-test.true c.loop-number.invariant c.in_ok-word_text.ensures c.in_ok-add.ensures.ok
