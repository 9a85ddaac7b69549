use Rattle.std.proofs.lemmas.Result.{err_from_is_err_and}
use Rattle.class_file.specs.Inputs.{each}
use Rattle.class_file.specs.FormatFaults.{type_at}
use Rattle.class_reader.specs.Reads.{input_of}
use Rattle.class_reader.proofs.Loops.{with_front, goes_on, ends, is_done}
use Rattle.class_reader.proofs.Unset.{fails_behind}
use Rattle.class_reader.proofs.frames.push_each.Goals as goal

pub returns-in_err-kept : goal.returns-in_err-kept
returns-in_err-kept c =
    let p = err_from_is_err_and c.from_residual.result c.from_residual.ensures.1 in
    let given = each (type_at c.args.pool.now) c.args.count (input_of c.args.input) in
    rw (p.1, p.2) (fails_behind c.in_err-kept.field-0.0 c.args.locals.now given
    (ends (type_at c.args.pool.now) c.in_err-kept.field-0.0 c.loop.locals c.args.count c.loop.counter (input_of c.loop.rest) (with_front c.args.locals.now given) c.loop-test.true c.in_err-kept.ensures c.loop.invariant))

pub loop-preserved : goal.loop-preserved
loop-preserved c =
    rw c.in_ok-push.ensures (goes_on (type_at c.args.pool.now) c.loop.locals c.args.count c.loop.counter (input_of c.loop.rest) (input_of c.in_ok-kept.behind) c.in_ok-kept.kept (with_front c.args.locals.now (each (type_at c.args.pool.now) c.args.count (input_of c.args.input))) c.loop-test.true c.in_ok-kept.ensures c.loop.invariant)

pub returns : goal.returns
returns c = is_done (type_at c.args.pool.now) c.loop.locals c.args.count c.loop.counter (input_of c.loop.rest) (with_front c.args.locals.now (each (type_at c.args.pool.now) c.args.count (input_of c.args.input))) c.loop-test.false c.loop.invariant
