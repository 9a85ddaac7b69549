use Rattle.class_spelling.proofs.Corollaries.{spelling_is_of_one_class}
use Rattle.class_spelling.proofs.spelling_is_of_one_class.Goals as goal

pub returns : goal.returns
returns c = spelling_is_of_one_class
