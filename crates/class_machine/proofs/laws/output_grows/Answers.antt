use Rattle.class_file.specs.Runs.{grows, over_after}
use Rattle.class_machine.proofs.laws.output_grows.Goals as goal

pub returns-clause-grows : goal.returns-clause-grows
returns-clause-grows c = grows

pub returns-clause-over : goal.returns-clause-over
returns-clause-over c = over_after
