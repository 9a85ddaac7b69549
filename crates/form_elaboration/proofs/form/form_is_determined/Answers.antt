use Rattle.form_elaboration.proofs.Forms.{one_program}
use Rattle.form_elaboration.proofs.form.form_is_determined.Goals as goal

pub returns : goal.returns
returns c = one_program
