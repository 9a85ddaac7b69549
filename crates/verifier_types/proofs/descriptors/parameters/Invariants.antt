use Rattle.std.proofs.Common.{◌≡◌, map}
use Rattle.class_file.specs.Descriptors.{parameters}
use Rattle.verifier_types.specs.Seen.{type_of}
use Rattle.verifier_types.specs.Calls.{prefixed}
use Rattle.verifier_types.proofs.descriptors.parameters.Given as goal

abbrev pub invariant-loop-rest : goal.invariant-loop-rest
invariant-loop-rest l =
    prefixed (map type_of l.params.items) (parameters l.left l.rest) ≡ prefixed (map type_of l.fn.params.items) (parameters l.most l.fn.units)

abbrev pub decreases-loop-rest : goal.decreases-loop-rest
decreases-loop-rest l = l.left
