use Rattle.class_reader.specs.Forms.{form_seen}
use Rattle.class_reader.proofs.Parts.{found_0, found_1, found_2, found_3, found_4, found_5, found_6, found_7, found_8, rest_is}
use Rattle.class_reader.proofs.opcodes.form_of.Goals as goal

pub returns-in-Some : goal.returns-in-Some
returns-in-Some c = found_0 c.args.opcode (form_seen c.in-Some.form) c.in-Some.ensures

pub returns-in-Some-load : goal.returns-in-Some-load
returns-in-Some-load c = found_1 c.args.opcode (form_seen c.in-Some-load.form) c.in_default.ensures c.in-Some-load.ensures

pub returns-in-Some-store : goal.returns-in-Some-store
returns-in-Some-store c = found_2 c.args.opcode (form_seen c.in-Some-store.form) c.in_default.ensures c.in_default-load.ensures c.in-Some-store.ensures

pub returns-in-Some-stack : goal.returns-in-Some-stack
returns-in-Some-stack c = found_3 c.args.opcode (form_seen c.in-Some-stack.form) c.in_default.ensures c.in_default-load.ensures c.in_default-store.ensures c.in-Some-stack.ensures

pub returns-in-Some-arithmetic : goal.returns-in-Some-arithmetic
returns-in-Some-arithmetic c = found_4 c.args.opcode (form_seen c.in-Some-arithmetic.form) c.in_default.ensures c.in_default-load.ensures c.in_default-store.ensures c.in_default-stack.ensures c.in-Some-arithmetic.ensures

pub returns-in-Some-bits : goal.returns-in-Some-bits
returns-in-Some-bits c = found_5 c.args.opcode (form_seen c.in-Some-bits.form) c.in_default.ensures c.in_default-load.ensures c.in_default-store.ensures c.in_default-stack.ensures c.in_default-arithmetic.ensures c.in-Some-bits.ensures

pub returns-in-Some-conversion : goal.returns-in-Some-conversion
returns-in-Some-conversion c = found_6 c.args.opcode (form_seen c.in-Some-conversion.form) c.in_default.ensures c.in_default-load.ensures c.in_default-store.ensures c.in_default-stack.ensures c.in_default-arithmetic.ensures c.in_default-bits.ensures c.in-Some-conversion.ensures

pub returns-in_Some-form : goal.returns-in_Some-form
returns-in_Some-form c = found_7 c.args.opcode (form_seen c.in_Some-form.form) c.in_default.ensures c.in_default-load.ensures c.in_default-store.ensures c.in_default-stack.ensures c.in_default-arithmetic.ensures c.in_default-bits.ensures c.in_default-conversion.ensures c.in_Some-form.ensures

pub returns-in-Some-member : goal.returns-in-Some-member
returns-in-Some-member c = found_8 c.args.opcode (form_seen c.in-Some-member.form) c.in_default.ensures c.in_default-load.ensures c.in_default-store.ensures c.in_default-stack.ensures c.in_default-arithmetic.ensures c.in_default-bits.ensures c.in_default-conversion.ensures c.in_default-form.ensures c.in-Some-member.ensures

pub returns : goal.returns
returns c = rest_is c.args.opcode _ c.in_default.ensures c.in_default-load.ensures c.in_default-store.ensures c.in_default-stack.ensures c.in_default-arithmetic.ensures c.in_default-bits.ensures c.in_default-conversion.ensures c.in_default-form.ensures c.in_default-member.ensures c.object.ensures
