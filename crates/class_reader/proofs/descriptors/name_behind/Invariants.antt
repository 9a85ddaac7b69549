use Rattle.std.proofs.Common.{◌≡◌, false, length}
use Rattle.class_file.specs.Descriptors.{up_to_semicolon}
use Rattle.class_reader.specs.Descriptors.{name_behind}
use Rattle.class_reader.proofs.descriptors.name_behind.Given as goal

abbrev pub invariant-loop-rest : goal.invariant-loop-rest
invariant-loop-rest l = name_behind l.begun (up_to_semicolon l.rest) ≡ name_behind false (up_to_semicolon l.units)

abbrev pub decreases-loop-rest : goal.decreases-loop-rest
decreases-loop-rest l = length l.rest
