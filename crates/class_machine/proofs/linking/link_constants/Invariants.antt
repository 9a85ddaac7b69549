use Rattle.std.proofs.Common.{◌≡◌, take}
use Rattle.std.specs.Prelude.{map}
use Rattle.class_machine.specs.Links.{meaning_of, meaning_in}
use Rattle.class_machine.proofs.linking.link_constants.Given as goal

abbrev pub invariant-loop-index : goal.invariant-loop-index
invariant-loop-index l = map meaning_of l.constants.items ≡ map (meaning_in l.set.classes l.pool) (take l.index l.pool)
