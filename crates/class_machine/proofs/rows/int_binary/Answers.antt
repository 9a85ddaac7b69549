use Rattle.std.proofs.Common.{◌∷◌}
use Rattle.std.specs.Prelude.{reverse}
use Rattle.class_file.specs.declared.value.Value.TheVariants.{Int}
use Rattle.class_file.specs.Machine.{on_int, int_answer, or_zero_divisor, Goes}
use Rattle.class_machine.proofs.Tops.{int_on_top}
use Rattle.class_machine.proofs.rows.int_binary.Goals as goal

pub pop_int-y-requires : goal.pop_int-y-requires
pop_int-y-requires c =
    int_on_top (reverse c.args.f.now.stack.items)
    (λ y rest. on_int rest (λ x below. or_zero_divisor (int_answer c.args.o x y) (λ n. Goes c.args.next c.args.f.now.locals.items (Int n ∷ below)))) c.requires.goes
