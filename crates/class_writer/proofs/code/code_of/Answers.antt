use Rattle.class_writer.specs.Indexes.{slots_of}
use Rattle.class_writer.proofs.Fitting.{handlers_fit, instrs_short}
use Rattle.class_writer.proofs.code.code_of.Goals as goal

pub put_code_array-requires : goal.put_code_array-requires
put_code_array-requires c =
    let sized = c.requires.spelled.1.1.4.4.3 in rw c.as_slice.ensures (instrs_short (slots_of c.args.names.now) c.args.method.now.code sized.0 sized.3)

pub put_handlers-requires-clause-fit : goal.put_handlers-requires-clause-fit
put_handlers-requires-clause-fit c =
    let table = c.requires.spelled.1.1.4.4.4.3 in
    rw c.as_slice-2.ensures (handlers_fit (slots_of c.args.names.now) c.args.method.now.handlers table.1 table.4)
