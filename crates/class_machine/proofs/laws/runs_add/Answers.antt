use Rattle.class_file.specs.Runs.{on_add}
use Rattle.class_machine.proofs.laws.runs_add.Goals as goal

pub returns : goal.returns
returns c = on_add
