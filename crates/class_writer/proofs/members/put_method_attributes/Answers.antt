use Rattle.std.proofs.Common.{List, ◌<◌, length, subst, arith}
use Rattle.class_file.specs.declared.instr.Instr.{Instr}
use Rattle.class_writer.specs.Indexes.{slots_of}
use Rattle.class_writer.proofs.Fitting.{code_spelled, code_short, method_others}
use Rattle.class_writer.proofs.members.put_method_attributes.Goals as goal

pub put_attributes-requires-clause-spelled : goal.put_attributes-requires-clause-spelled
put_attributes-requires-clause-spelled c =
    rw c.as_slice-others.ensures (method_others (slots_of c.args.names.now) c.args.this.now c.args.method.now c.requires.spelled.0 c.requires.spelled.1)

pub code_of-requires-clause-spelled : goal.code_of-requires-clause-spelled
code_of-requires-clause-spelled c =
    let some : 0 < length c.args.method.now.code = subst (λ (is : List Instr). 0 < length is) c.as_slice.ensures (omega (arith, c.in-len1-up.len_at_least)) in
    code_spelled (slots_of c.args.names.now) c.args.this.now c.args.method.now c.requires.spelled.0 some c.requires.spelled.1

pub code_attribute-requires-clause-short : goal.code_attribute-requires-clause-short
code_attribute-requires-clause-short c =
    let some : 0 < length c.args.method.now.code = subst (λ (is : List Instr). 0 < length is) c.as_slice.ensures (omega (arith, c.in-len1-up.len_at_least)) in
    rw (c.deref.ensures.value, c.in_ok-code-in-len1-up.ensures) (code_short (slots_of c.args.names.now) c.args.this.now c.args.method.now c.requires.spelled.0 some c.requires.spelled.1)

pub put_known-requires-clause-spelled : goal.put_known-requires-clause-spelled
put_known-requires-clause-spelled c =
    let table = method_others (slots_of c.args.names.now) c.args.this.now c.args.method.now c.requires.spelled.0 c.requires.spelled.1 in
    rw c.as_slice-others.ensures (table.1.1, table.1.4)
