use Rattle.form_elaboration.proofs.Light.{programs_light}
use Rattle.form_elaboration.proofs.form.programs_are_light.Goals as goal

pub returns : goal.returns
returns c = programs_light
