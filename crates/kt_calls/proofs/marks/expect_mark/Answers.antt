use Rattle.kt_grammar.proofs.Advances.{not_one}
use Rattle.kt_calls.proofs.MarkRows.{sample, is_sample}
use Rattle.kt_calls.proofs.marks.expect_mark.Goals as goal

pub returns-in-None : goal.returns-in-None
returns-in-None c = not_one (sample c.args.mark) (is_sample c.args.mark) c.requires c.in-None.ensures c.fault.ensures
