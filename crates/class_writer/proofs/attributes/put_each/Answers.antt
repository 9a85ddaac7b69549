use Rattle.class_file.specs.ClassBytes.{AttributeIs}
use Rattle.class_writer.specs.Indexes.{slots_of}
use Rattle.class_writer.proofs.Grammar.{spelled_at}
use Rattle.class_writer.proofs.attributes.put_each.Goals as goal

pub put_attribute-requires-clause-spelled : goal.put_attribute-requires-clause-spelled
put_attribute-requires-clause-spelled c =
    rw c.attribute-item.is (spelled_at (AttributeIs (slots_of c.args.names.now)) c.args.attributes.now c.requires.spelled.0 c.loop-attribute.attribute-index _ c.requires.spelled.1 c.loop-attribute-test.true)
