use Rattle.std.proofs.Common.{◌≡◌, take}
use Rattle.std.specs.Prelude.{map}
use Rattle.class_machine.specs.Building.{is_call}
use Rattle.class_machine.proofs.building.calls_of.Given as goal

abbrev pub invariant-loop-index : goal.invariant-loop-index
invariant-loop-index l = l.calls.items ≡ map (is_call l.set l.pool) (take l.index l.pool)
