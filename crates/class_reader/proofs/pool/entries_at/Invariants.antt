use Rattle.std.proofs.Common.{◌≡◌, ◌-◌}
use Rattle.class_file.specs.PoolFaults.{entries_at}
use Rattle.class_reader.specs.Pools.{uses_of}
use Rattle.class_reader.specs.Reads.{input_of}
use Rattle.class_reader.proofs.pool.entries_at.Given as goal

abbrev pub invariant-loop : goal.invariant-loop
invariant-loop l =
    entries_at (l.count - l.counter) l.count l.pool (uses_of l.uses.items) (input_of l.rest)
    ≡ entries_at l.count l.count l.fn.pool (uses_of l.fn.uses.items) (input_of l.input)
