use Rattle.class_spelling.proofs.Reading.{spelled_is_read}
use Rattle.class_spelling.proofs.spelled_is_read.Goals as goal

pub returns : goal.returns
returns c = spelled_is_read
