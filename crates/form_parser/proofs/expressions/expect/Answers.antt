use Rattle.form_parser.specs.Parsed.{refuted}
use Rattle.form_parser.proofs.expressions.expect.Goals as goal

pub returns-in-None-clause-expects : goal.returns-in-None-clause-expects
returns-in-None-clause-expects c = refuted c.in-None.ensures.takes
