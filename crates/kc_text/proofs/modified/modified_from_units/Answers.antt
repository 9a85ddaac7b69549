use Rattle.std.proofs.Common.{arith}
use Rattle.kc_text.proofs.Spelling.{AreUnits-from_get_or}
use Rattle.kc_text.proofs.modified.modified_from_units.Goals as goal

pub returns-clause-fits : goal.returns-clause-fits
returns-clause-fits c = AreUnits-from_get_or c.args.units.now (λ i. let below = c.type_inv.units i in omega arith)
