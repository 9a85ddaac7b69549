use Rattle.kt_grammar.proofs.Advances.{not_one}
use Rattle.kt_bodies.proofs.TokenRows.{sample, is_sample}
use Rattle.kt_bodies.proofs.terminals.expect_on.Goals as goal

pub returns-in-None : goal.returns-in-None
returns-in-None c = not_one (sample c.args.terminal) (is_sample c.args.terminal) c.requires c.in-None.ensures c.fault.ensures
