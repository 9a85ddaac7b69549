use Rattle.std.proofs.Common.{ℕ, Option, sym, subst, ap, ◌∙◌}
use Rattle.class_file.specs.declared.instr.Instr.{Instr}
use Rattle.class_file.specs.Inputs.{◌>>=◌, Reading}
use Rattle.class_file.specs.Opcodes.{Form, wide_form_of}
use Rattle.class_file.specs.FormatFaults.{formed}
use Rattle.class_reader.specs.Reads.{Reads, input_of}
use Rattle.class_reader.proofs.instructions.wide_at.Goals as goal

pub returns-in-Some-Increment : goal.returns-in-Some-Increment
returns-in-Some-Increment c =
    let form = rw c.in-Some-Increment.field-0-is at c.in-Some-Increment.ensures in
    subst (λ (r : Reading Instr). Reads (λ (i : Instr). i) c.wide_increment_at.result r)
    (sym (ap (λ (r : Reading ℕ). r >>= λ opcode. formed c.args.pool.now (wide_form_of opcode.value) c.args.input.at opcode.rest) c.in_ok-opcode.ensures
    ∙ ap (λ (o : Option Form). formed c.args.pool.now o c.args.input.at (input_of c.in_ok-opcode.rest)) (sym form)))
    (c.wide_increment_at.ensures c.args.pool.now)
