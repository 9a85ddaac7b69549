use Rattle.form_elaboration.proofs.Programs.{program_formed}
use Rattle.form_elaboration.proofs.program.elaborated_is_formed.Goals as goal

pub returns : goal.returns
returns c = program_formed
