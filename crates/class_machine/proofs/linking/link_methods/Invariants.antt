use Rattle.std.proofs.Common.{◌≡◌, take}
use Rattle.std.specs.Prelude.{map}
use Rattle.class_machine.specs.Links.{method_parts, method_parts_of}
use Rattle.class_machine.proofs.linking.link_methods.Given as goal

abbrev pub invariant-loop-method : goal.invariant-loop-method
invariant-loop-method l = map method_parts l.linked.items ≡ map (method_parts_of l.pool) (take l.method-index l.methods)
