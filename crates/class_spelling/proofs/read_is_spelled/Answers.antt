use Rattle.class_spelling.proofs.Found.{read_is_spelled}
use Rattle.class_spelling.proofs.read_is_spelled.Goals as goal

pub returns : goal.returns
returns c = read_is_spelled
