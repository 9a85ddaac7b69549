use Rattle.class_writer.specs.Indexes.{slots_of}
use Rattle.class_writer.proofs.Fitting.{attribute_short}
use Rattle.class_writer.proofs.attributes.put_attribute.Goals as goal

pub put_named-requires-clause-short : goal.put_named-requires-clause-short
put_named-requires-clause-short c = rw c.as_slice.ensures (attribute_short (slots_of c.args.names.now) c.args.attribute.now c.requires.spelled.0 c.requires.spelled.1)
