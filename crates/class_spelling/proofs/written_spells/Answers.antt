use Rattle.class_spelling.proofs.Written.{written_spells}
use Rattle.class_spelling.proofs.written_spells.Goals as goal

pub returns : goal.returns
returns c = written_spells
