use Rattle.std.proofs.Common.{refl}
use Rattle.kt_grammar.proofs.files_are_built.Goals as goal

pub returns : goal.returns
returns c = (refl, refl, refl)
