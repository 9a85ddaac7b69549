use Rattle.class_writer.proofs.members.put_field.Goals as goal

pub put_attributes-requires-clause-spelled : goal.put_attributes-requires-clause-spelled
put_attributes-requires-clause-spelled c =
    let descriptor = c.requires.spelled.1.4.4 in rw c.as_slice.ensures (descriptor.1, descriptor.4)
