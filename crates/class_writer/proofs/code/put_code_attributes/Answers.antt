use Rattle.std.proofs.Common.{◌<◌, None, length, ap, arith}
use Rattle.class_writer.specs.Indexes.{slots_of}
use Rattle.class_writer.specs.Fits.{before_of}
use Rattle.class_writer.proofs.Fitting.{code_others, stack_map_short}
use Rattle.class_writer.proofs.code.put_code_attributes.Goals as goal

pub put_attributes-requires-clause-spelled : goal.put_attributes-requires-clause-spelled
put_attributes-requires-clause-spelled c =
    code_others (slots_of c.args.names.now) (before_of None c.args.start.now) c.args.frames.now c.args.others.now c.requires.spelled.0 c.requires.spelled.1

pub put_named-requires-clause-short : goal.put_named-requires-clause-short
put_named-requires-clause-short c =
    let some : 0 < length c.args.frames.now = omega (arith, c.in-len1-up.len_at_least, ap length c.as_slice.ensures) in
    rw (c.deref.ensures.value, c.in_ok-body-in-len1-up.ensures)
    (stack_map_short (slots_of c.args.names.now) (before_of None c.args.start.now) c.args.frames.now c.args.others.now c.requires.spelled.0 some c.requires.spelled.1)

pub put_known-requires-clause-spelled : goal.put_known-requires-clause-spelled
put_known-requires-clause-spelled c =
    let table = code_others (slots_of c.args.names.now) (before_of None c.args.start.now) c.args.frames.now c.args.others.now c.requires.spelled.0 c.requires.spelled.1 in (table.1.1, table.1.4)
