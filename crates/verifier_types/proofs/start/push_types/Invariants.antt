use Rattle.std.proofs.Common.{◌≡◌, ◌++◌, take, map}
use Rattle.verifier_types.specs.Seen.{type_of}
use Rattle.verifier_types.proofs.start.push_types.Given as goal

abbrev pub invariant-loop-seen : goal.invariant-loop-seen
invariant-loop-seen l = l.locals ≡ l.fn.locals ++ map type_of (take l.seen-index l.types)
