use Rattle.class_spelling.proofs.Corollaries.{written_is_read}
use Rattle.class_spelling.proofs.written_is_read.Goals as goal

pub returns : goal.returns
returns c = written_is_read
