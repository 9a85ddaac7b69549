use Rattle.std.proofs.lemmas.List.{map-set}
use Rattle.verifier_types.specs.Seen.{type_of}
use Rattle.verifier_types.proofs.locals.Locals.set.Goals as goal

pub returns : goal.returns
returns c = rw (← c.self.view_is) (map-set type_of c.self.inside.types.items c.args.at c.args.t)
