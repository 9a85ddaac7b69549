use Rattle.kc_types.proofs.Putting.{longer}
use Rattle.kc_types.proofs.tests.number.Goals as goal

pub returns-clause-grows : goal.returns-clause-grows
returns-clause-grows c = longer c.args.table.now c.intern.new.self c.intern.ensures.extends
