use Rattle.stack_code.proofs.OwnNames.{own_name}
use Rattle.stack_code.proofs.method.files_have_own_names.Goals as goal

pub returns : goal.returns
returns c = own_name
