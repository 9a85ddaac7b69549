use Rattle.std.proofs.Common.{arith}
use Rattle.std.proofs.lemmas.Grind.{common_steps}
use Rattle.kc_cli.proofs.ClassNames.{class_name-of_parts}
use Rattle.kc_cli.proofs.file_class.class_name.Goals as goal

pub returns-clause-parts : goal.returns-clause-parts
returns-clause-parts c = λ folders base parts.
    let named = class_name-of_parts c.args.file.now folders base parts in
    grind (arith, common_steps)
