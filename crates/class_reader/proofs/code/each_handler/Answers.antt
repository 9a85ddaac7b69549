use Rattle.std.proofs.lemmas.Result.{err_from_is_err_and}
use Rattle.class_file.specs.Inputs.{each}
use Rattle.class_file.specs.FormatFaults.{handler_at}
use Rattle.class_reader.specs.Reads.{input_of}
use Rattle.class_reader.proofs.Loops.{goes_on, ends, is_done}
use Rattle.class_reader.proofs.code.each_handler.Goals as goal

pub returns-in_err-handler : goal.returns-in_err-handler
returns-in_err-handler c =
    let p = err_from_is_err_and c.from_residual.result c.from_residual.ensures.1 in
    rw (p.1, p.2) (ends (handler_at c.args.pool.now) c.in_err-handler.field-0.0 c.loop.handlers c.args.count c.loop.counter (input_of c.loop.rest) (each (handler_at c.args.pool.now) c.args.count (input_of c.args.input)) c.loop-test.true c.in_err-handler.ensures c.loop.invariant)

pub loop-preserved : goal.loop-preserved
loop-preserved c =
    rw c.in_ok-push.ensures.ok (goes_on (handler_at c.args.pool.now) c.loop.handlers c.args.count c.loop.counter (input_of c.loop.rest) (input_of c.in_ok-handler.behind) c.in_ok-handler.handler (each (handler_at c.args.pool.now) c.args.count (input_of c.args.input)) c.loop-test.true c.in_ok-handler.ensures c.loop.invariant)

pub returns : goal.returns
returns c = is_done (handler_at c.args.pool.now) c.loop.handlers c.args.count c.loop.counter (input_of c.loop.rest) (each (handler_at c.args.pool.now) c.args.count (input_of c.args.input)) c.loop-test.false c.loop.invariant
