use Rattle.std.proofs.Common.{◌≡◌, take}
use Rattle.std.specs.Prelude.{map}
use Rattle.class_machine.specs.Links.{linked_handler}
use Rattle.class_machine.proofs.linking.link_handlers.Given as goal

abbrev pub invariant-loop-handler : goal.invariant-loop-handler
invariant-loop-handler l = l.linked.items ≡ map (linked_handler l.pool) (take l.handler-index l.handlers)
