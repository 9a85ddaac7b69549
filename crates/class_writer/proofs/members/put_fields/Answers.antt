use Rattle.class_file.specs.ClassBytes.{FieldIs}
use Rattle.class_writer.specs.Indexes.{slots_of}
use Rattle.class_writer.proofs.Grammar.{spelled_at}
use Rattle.class_writer.proofs.members.put_fields.Goals as goal

pub put_field-requires-clause-spelled : goal.put_field-requires-clause-spelled
put_field-requires-clause-spelled c =
    rw c.field-item.is (spelled_at (FieldIs (slots_of c.args.names.now)) c.args.fields.now c.requires.spelled.1.1 c.loop-field.field-index _ c.requires.spelled.1.4 c.loop-field-test.true)
