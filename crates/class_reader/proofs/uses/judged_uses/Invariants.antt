use Rattle.std.proofs.Common.{◌≡◌, drop}
use Rattle.std.specs.Prelude.{Ok}
use Rattle.class_file.specs.PoolFaults.{uses_fault}
use Rattle.class_reader.specs.Pools.{uses_of}
use Rattle.class_reader.proofs.uses.judged_uses.Given as goal

abbrev unit : Unit {0}
unit = tt

abbrev pub invariant-loop-of : goal.invariant-loop-of
invariant-loop-of l = uses_fault l.pool l.count (uses_of (drop l.of-index l.uses)) (Ok unit) ≡ uses_fault l.pool l.count (uses_of l.uses) (Ok unit)
