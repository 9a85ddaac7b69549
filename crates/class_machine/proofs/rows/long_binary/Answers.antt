use Rattle.std.proofs.Common.{◌∷◌}
use Rattle.std.specs.Prelude.{reverse}
use Rattle.class_file.specs.declared.value.Value.TheVariants.{Long}
use Rattle.class_file.specs.Machine.{on_long, long_answer, or_zero_divisor, Goes}
use Rattle.class_machine.proofs.Tops.{long_on_top}
use Rattle.class_machine.proofs.rows.long_binary.Goals as goal

pub pop_long-y-requires : goal.pop_long-y-requires
pop_long-y-requires c =
    long_on_top (reverse c.args.f.now.stack.items)
    (λ y rest. on_long rest (λ x below. or_zero_divisor (long_answer c.args.o x y) (λ n. Goes c.args.next c.args.f.now.locals.items (Long n ∷ below)))) c.requires.goes
