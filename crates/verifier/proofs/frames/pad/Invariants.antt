use Rattle.std.proofs.Common.{◌≡◌, ◌++◌}
use Rattle.std.proofs.Math.ListN.{replicate}
use Rattle.class_file.specs.declared.class.VType.TheVariants.{Top}
use Rattle.verifier.proofs.frames.pad.Given as goal

abbrev pub invariant-loop : goal.invariant-loop
invariant-loop l = l.locals ≡ l.fn.locals ++ replicate l.counter Top
