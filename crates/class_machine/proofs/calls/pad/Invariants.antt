use Rattle.std.proofs.Common.{◌≡◌, ◌++◌}
use Rattle.std.proofs.Math.ListN.{replicate}
use Rattle.class_file.specs.declared.value.Value.TheVariants.{Nothing}
use Rattle.class_machine.proofs.calls.pad.Given as goal

abbrev pub invariant-loop : goal.invariant-loop
invariant-loop l = l.locals.items ≡ l.fn.locals.items ++ replicate l.counter Nothing
