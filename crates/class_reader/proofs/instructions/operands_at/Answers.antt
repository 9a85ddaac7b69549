use Rattle.class_reader.proofs.instructions.operands_at.Goals as goal

pub returns-in-Increment : goal.returns-in-Increment
returns-in-Increment c = rw c.in-Increment.is (c.increment_at.ensures c.args.pool.now)
