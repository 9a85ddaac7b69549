use Rattle.std.proofs.Common.{◌≡◌, drop, false}
use Rattle.class_file.specs.Descriptors.{is_class_name}
use Rattle.verifier_types.proofs.descriptors.is_class_name.Given as goal

abbrev pub invariant-loop-unit : goal.invariant-loop-unit
invariant-loop-unit l = is_class_name l.begun (drop l.unit-index l.units) ≡ is_class_name false l.units
