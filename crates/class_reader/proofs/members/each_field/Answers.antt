use Rattle.std.proofs.Common.{[]}
use Rattle.std.proofs.lemmas.Result.{err_from_is_err_and}
use Rattle.class_file.specs.FormatFaults.{fields_at}
use Rattle.class_reader.specs.Reads.{input_of}
use Rattle.class_reader.proofs.Tables.{fields_table, goes_on, ends, is_done}
use Rattle.class_reader.proofs.members.each_field.Goals as goal

pub returns-in_err-field : goal.returns-in_err-field
returns-in_err-field c =
    let p = err_from_is_err_and c.from_residual.result c.from_residual.ensures.1 in
    rw (p.1, p.2) (ends (fields_table c.args.pool.now) c.in_err-field.field-0.0 c.loop.fields c.args.count c.loop.counter c.loop.seen (input_of c.loop.rest) (fields_at c.args.pool.now c.args.count [] (input_of c.args.input)) c.loop-test.true c.in_err-field.ensures.exact c.loop.invariant)

pub loop-preserved : goal.loop-preserved
loop-preserved c =
    rw (c.in_ok-push.ensures.ok, c.in_ok-field.ensures.seen) (goes_on (fields_table c.args.pool.now) c.loop.fields c.args.count c.loop.counter c.loop.seen (input_of c.loop.rest) (input_of c.in_ok-field.behind) c.in_ok-field.field (fields_at c.args.pool.now c.args.count [] (input_of c.args.input)) c.loop-test.true c.in_ok-field.ensures.exact c.loop.invariant)

pub returns : goal.returns
returns c = is_done (fields_table c.args.pool.now) c.loop.fields c.args.count c.loop.counter c.loop.seen (input_of c.loop.rest) (fields_at c.args.pool.now c.args.count [] (input_of c.args.input)) c.loop-test.false c.loop.invariant
