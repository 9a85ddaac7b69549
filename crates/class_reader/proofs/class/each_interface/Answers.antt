use Rattle.std.proofs.lemmas.Result.{err_from_is_err_and}
use Rattle.class_file.specs.Inputs.{each}
use Rattle.class_file.specs.FormatFaults.{class_named}
use Rattle.class_reader.specs.Reads.{input_of}
use Rattle.class_reader.proofs.Loops.{goes_on, ends, is_done}
use Rattle.class_reader.proofs.class.each_interface.Goals as goal

pub returns-in_err-name : goal.returns-in_err-name
returns-in_err-name c =
    let p = err_from_is_err_and c.from_residual.result c.from_residual.ensures.1 in
    rw (p.1, p.2) (ends (class_named c.args.pool.now) c.in_err-name.field-0.0 c.loop.names c.args.count c.loop.counter (input_of c.loop.rest) (each (class_named c.args.pool.now) c.args.count (input_of c.args.input)) c.loop-test.true c.in_err-name.ensures c.loop.invariant)

pub loop-preserved : goal.loop-preserved
loop-preserved c =
    rw c.in_ok-push.ensures.ok (goes_on (class_named c.args.pool.now) c.loop.names c.args.count c.loop.counter (input_of c.loop.rest) (input_of c.in_ok-name.behind) c.in_ok-name.name (each (class_named c.args.pool.now) c.args.count (input_of c.args.input)) c.loop-test.true c.in_ok-name.ensures c.loop.invariant)

pub returns : goal.returns
returns c = is_done (class_named c.args.pool.now) c.loop.names c.args.count c.loop.counter (input_of c.loop.rest) (each (class_named c.args.pool.now) c.args.count (input_of c.args.input)) c.loop-test.false c.loop.invariant
