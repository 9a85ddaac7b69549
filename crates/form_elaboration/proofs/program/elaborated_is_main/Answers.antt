use Rattle.form_elaboration.proofs.Programs.{program_is_main}
use Rattle.form_elaboration.proofs.program.elaborated_is_main.Goals as goal

pub returns : goal.returns
returns c = program_is_main
