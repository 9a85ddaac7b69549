use Rattle.std.proofs.Common.{sym, ap, ◌∙◌, subst}
use Rattle.stack_code.specs.Agrees.{IsOwnName}
use Rattle.kc_cli.specs.ClassName.{capitalized, class_name_of, last_part_of, without_ending}
use Rattle.kc_cli.proofs.Compiled.{main_is_small}
use Rattle.kc_cli.proofs.Executing.{builds}
use Rattle.kc_cli.proofs.Loading.{loaded, verifies}
use Rattle.kc_cli.proofs.execution.build.Goals as goal

pub compile-requires-clause-main : goal.compile-requires-clause-main
compile-requires-clause-main c = c.in-Ok.ensures.main.has_main

pub compile-requires-clause-small : goal.compile-requires-clause-small
compile-requires-clause-small c = main_is_small c.args.bytes.now c.in-Ok.program c.programs_are_light.ensures c.in-Ok.ensures.reads c.in-Ok.ensures.formed

pub compile-requires-clause-own : goal.compile-requires-clause-own
compile-requires-clause-own c =
    subst IsOwnName (sym c.in-Ok-class_name.ensures.named) (c.files_have_own_names.ensures (capitalized (without_ending (last_part_of c.as_str-2.result.now))))

pub returns-in-Ok-compile-clause-ok : goal.returns-in-Ok-compile-clause-ok
returns-in-Ok-compile-clause-ok c =
    builds c.args.bytes.now c.in-Ok.program c.in-Ok-compile.set c.in-Ok.ensures.reads c.in-Ok.ensures.formed c.in-Ok-compile.ensures.compiled.compiled
    (verifies c.compiled_verifies.ensures c.in-Ok-compile.set c.in-Ok.program c.in-Ok.ensures.formed c.in-Ok-compile.ensures.compiled)

pub returns-in-Ok-compile-clause-lot : goal.returns-in-Ok-compile-clause-lot
returns-in-Ok-compile-clause-lot c = c.compiled_is_first_lot.ensures c.in-Ok-compile.set c.in-Ok.program 0 c.in-Ok-compile.ensures.compiled.compiled

pub returns-in-Ok-compile-clause-loaded : goal.returns-in-Ok-compile-clause-loaded
returns-in-Ok-compile-clause-loaded c =
    loaded c.plain_sets_are_loaded.ensures c.compiled_has_code.ensures c.in-Ok-compile.set c.in-Ok.program c.args.file.now c.requires
    (c.in-Ok-compile.ensures.named ∙ c.in-Ok-class_name.ensures.named ∙ ap class_name_of c.as_str-2.ensures)
    (c.compiled_is_first_lot.ensures c.in-Ok-compile.set c.in-Ok.program 0 c.in-Ok-compile.ensures.compiled.compiled).main c.in-Ok-compile.ensures.compiled.compiled
