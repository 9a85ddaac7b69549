use Rattle.std.proofs.Common.{refl}
use Rattle.kc_types.proofs.Questions.{itself, bound, function}
use Rattle.kc_types.proofs.laws.questions_are_endless.Goals as goal

pub returns : goal.returns
returns c = record { itself = itself; bound = bound; function = function; larger = refl; at_instance = refl; beside_bound = refl; joined = refl }
