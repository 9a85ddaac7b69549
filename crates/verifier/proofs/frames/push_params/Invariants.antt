use Rattle.std.proofs.Common.{◌≡◌, ◌++◌, drop, map}
use Rattle.class_file.specs.Verification.{spread}
use Rattle.verifier_types.specs.Seen.{type_of}
use Rattle.verifier.proofs.frames.push_params.Given as goal

abbrev pub invariant-loop-t : goal.invariant-loop-t
invariant-loop-t l = l.locals ++ spread (map type_of (drop l.t-index l.types)) ≡ l.fn.locals ++ spread (map type_of l.types)
