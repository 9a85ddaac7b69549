use Rattle.std.proofs.Common.{List, Err, ap, sym, arith, ◌∙◌, ◌-◌, length}
use Rattle.class_file.specs.PoolFaults.{Use, pool_read, entries_at}
use Rattle.class_reader.specs.Reads.{input_of}
use Rattle.class_reader.specs.Pools.{uses_of}
use Rattle.class_reader.proofs.Entries.{goes_on, ends, is_full, is_done}
use Rattle.class_reader.proofs.Places.{fits}
use Rattle.class_reader.proofs.pool.entries_at.Goals as goal

pub returns-then-count : goal.returns-then-count
returns-then-count c =
    is_full c.loop.pool (uses_of c.loop.uses.items) c.args.count c.loop.counter (input_of c.loop.rest) (entries_at c.args.count c.args.count c.args.pool.now (uses_of c.args.uses.now.items) (input_of c.args.input)) (omega arith) c.loop.invariant

pub returns-in-Err-Found : goal.returns-in-Err-Found
returns-in-Err-Found c =
    let read = rw (c.in-Err-Found.field-0-is, c.count-in-loop.ensures) at c.in-Err-Found.ensures in
    rw c.in-Err-Found.found-is
    (ends c.loop.pool (uses_of c.loop.uses.items) c.args.count c.loop.counter (input_of c.loop.rest) c.in-Err-Found.found (entries_at c.args.count c.args.count c.args.pool.now (uses_of c.args.uses.now.items) (input_of c.args.input)) c.loop-test.true (omega arith) read.0 c.loop.invariant
    ∙ ap (λ (us : List Use). pool_read c.loop.pool us (Err c.in-Err-Found.found)) (sym read.1))

pub append-requires : goal.append-requires
append-requires c =
    let read = rw c.count-in-loop.ensures at c.in-Ok.ensures in
    omega (arith, fits (c.args.count - length c.loop.pool) (input_of c.loop.rest) (input_of c.in-Ok.behind) c.in-Ok.entry (omega arith) read.0)

pub loop-preserved : goal.loop-preserved
loop-preserved c =
    let read = rw c.count-in-loop.ensures at c.in-Ok.ensures in
    rw (c.in_ok-append-in-Ok.ensures.ok, read.1)
    (goes_on c.loop.pool (uses_of c.loop.uses.items) c.args.count c.loop.counter (input_of c.loop.rest) (input_of c.in-Ok.behind) c.in-Ok.entry (entries_at c.args.count c.args.count c.args.pool.now (uses_of c.args.uses.now.items) (input_of c.args.input)) c.loop-test.true (omega arith) read.0 c.loop.invariant)

pub returns : goal.returns
returns c = is_done c.loop.pool (uses_of c.loop.uses.items) c.args.count c.loop.counter (input_of c.loop.rest) (entries_at c.args.count c.args.count c.args.pool.now (uses_of c.args.uses.now.items) (input_of c.args.input)) c.loop-test.false c.loop.invariant
