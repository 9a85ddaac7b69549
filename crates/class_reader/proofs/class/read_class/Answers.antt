use Rattle.class_reader.proofs.Spelling.{found, refused}
use Rattle.class_reader.proofs.class.read_class.Goals as goal

pub returns-clause-found : goal.returns-clause-found
returns-clause-found c = found c.args.bytes.now c.class_of.result c.are_bytes.ensures c.class_of.ensures

pub returns-clause-refused : goal.returns-clause-refused
returns-clause-refused c = refused c.args.bytes.now c.class_of.result c.class_of.ensures
