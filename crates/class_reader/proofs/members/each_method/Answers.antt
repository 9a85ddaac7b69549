use Rattle.std.proofs.Common.{[]}
use Rattle.std.proofs.lemmas.Result.{err_from_is_err_and}
use Rattle.class_file.specs.FormatFaults.{methods_at}
use Rattle.class_reader.specs.Reads.{input_of}
use Rattle.class_reader.proofs.Tables.{methods_table, goes_on, ends, is_done}
use Rattle.class_reader.proofs.members.each_method.Goals as goal

pub returns-in_err-method : goal.returns-in_err-method
returns-in_err-method c =
    let p = err_from_is_err_and c.from_residual.result c.from_residual.ensures.1 in
    rw (p.1, p.2) (ends (methods_table c.args.pool.now c.args.this.now) c.in_err-method.field-0.0 c.loop.methods c.args.count c.loop.counter c.loop.seen (input_of c.loop.rest) (methods_at c.args.pool.now c.args.this.now c.args.count [] (input_of c.args.input)) c.loop-test.true c.in_err-method.ensures.exact c.loop.invariant)

pub loop-preserved : goal.loop-preserved
loop-preserved c =
    rw (c.in_ok-push.ensures.ok, c.in_ok-method.ensures.seen) (goes_on (methods_table c.args.pool.now c.args.this.now) c.loop.methods c.args.count c.loop.counter c.loop.seen (input_of c.loop.rest) (input_of c.in_ok-method.behind) c.in_ok-method.method (methods_at c.args.pool.now c.args.this.now c.args.count [] (input_of c.args.input)) c.loop-test.true c.in_ok-method.ensures.exact c.loop.invariant)

pub returns : goal.returns
returns c = is_done (methods_table c.args.pool.now c.args.this.now) c.loop.methods c.args.count c.loop.counter c.loop.seen (input_of c.loop.rest) (methods_at c.args.pool.now c.args.this.now c.args.count [] (input_of c.args.input)) c.loop-test.false c.loop.invariant
