use Rattle.std.proofs.Common.{◌≡◌, drop}
use Rattle.std.specs.List.{list_all}
use Rattle.class_machine.specs.Building.{class_is_built}
use Rattle.class_machine.proofs.building.classes_are_built.Given as goal

abbrev pub invariant-loop-class : goal.invariant-loop-class
invariant-loop-class l = list_all (class_is_built l.set) (drop l.class-index l.classes) ≡ list_all (class_is_built l.set) l.classes
