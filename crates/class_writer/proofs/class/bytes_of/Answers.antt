use Rattle.class_writer.proofs.class.bytes_of.Goals as goal

pub put_fields-requires-clause-spelled : goal.put_fields-requires-clause-spelled
put_fields-requires-clause-spelled c =
    let part = c.requires.1.parts.4.4.4.4.4.4.4.4 in rw (c.in_ok-names.ensures.pool, c.as_slice.ensures) (part.0, part.3)

pub put_methods-requires-clause-spelled : goal.put_methods-requires-clause-spelled
put_methods-requires-clause-spelled c =
    let part = c.requires.1.parts.4.4.4.4.4.4.4.4.4 in rw (c.in_ok-names.ensures.pool, c.as_slice-2.ensures) (part.0, part.3)

pub put_attributes-requires-clause-spelled : goal.put_attributes-requires-clause-spelled
put_attributes-requires-clause-spelled c =
    let part = c.requires.1.parts.4.4.4.4.4.4.4.4.4 in rw (c.in_ok-names.ensures.pool, c.as_slice-3.ensures) (part.1, part.4)
