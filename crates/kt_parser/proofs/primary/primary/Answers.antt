use Rattle.kt_parser.proofs.PrimaryRows.{atom_taken, no_atom_here}
use Rattle.kt_parser.proofs.primary.primary.Goals as goal

pub returns-in-Some : goal.returns-in-Some
returns-in-Some g c = atom_taken c.in-Some.ensures c.atom.ensures

pub returns-in-None : goal.returns-in-None
returns-in-None g c = no_atom_here c.args.bodies.now.tokens.now c.args.at c.requires.within c.in-None.ensures c.no_atom.result c.no_atom.ensures
