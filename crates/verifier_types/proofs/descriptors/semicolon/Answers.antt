use Rattle.verifier_types.proofs.Spelling.{semicolon_at}
use Rattle.verifier_types.proofs.descriptors.semicolon.Goals as goal

pub returns : goal.returns
returns c = semicolon_at c.args.units.now c.semicolon_place.result c.semicolon_place.ensures
