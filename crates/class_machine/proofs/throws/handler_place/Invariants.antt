use Rattle.std.proofs.Common.{◌≡◌, drop}
use Rattle.class_machine.specs.Throws.{linked_place}
use Rattle.class_machine.proofs.throws.handler_place.Given as goal

abbrev pub invariant-loop-handler : goal.invariant-loop-handler
invariant-loop-handler l = linked_place l.handlers l.exception l.at ≡ linked_place (drop l.handler-index l.handlers) l.exception l.at
