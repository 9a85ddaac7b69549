use Rattle.class_spelling.proofs.Written.{written_is_no_longer}
use Rattle.class_spelling.proofs.written_is_no_longer.Goals as goal

pub returns : goal.returns
returns c = written_is_no_longer
