use Rattle.std.proofs.lemmas.Result.{err_from_is_err_and}
use Rattle.class_file.specs.FormatFaults.{instructions_at}
use Rattle.class_reader.specs.Reads.{input_of}
use Rattle.class_reader.proofs.Tables.{is_empty, is_more, instrs_go_on, instrs_end, instrs_done, instrs_spent}
use Rattle.class_reader.proofs.instructions.instructions_at.Goals as goal

pub returns-then-left-eq0 : goal.returns-then-left-eq0
returns-then-left-eq0 c = instrs_done c.args.pool.now c.loop.code c.args.most c.loop.counter (input_of c.loop.rest) (instructions_at c.args.pool.now c.args.most (input_of c.args.input)) (is_empty _ _ c.left.ensures c.if-left-eq0.true) c.loop.invariant

pub returns-in_err-instr : goal.returns-in_err-instr
returns-in_err-instr c =
    let p = err_from_is_err_and c.from_residual.result c.from_residual.ensures.1 in
    rw (p.1, p.2) (instrs_end c.args.pool.now c.in_err-instr.field-0.0 c.loop.code c.args.most c.loop.counter (input_of c.loop.rest) (instructions_at c.args.pool.now c.args.most (input_of c.args.input)) c.loop-test.true (is_more _ _ c.left.ensures c.if-left-eq0.false) c.in_err-instr.ensures c.loop.invariant)

pub loop-preserved : goal.loop-preserved
loop-preserved c =
    rw c.in_ok-push.ensures.ok (instrs_go_on c.args.pool.now c.loop.code c.args.most c.loop.counter (input_of c.loop.rest) (input_of c.in_ok-instr.behind) c.in_ok-instr.instr (instructions_at c.args.pool.now c.args.most (input_of c.args.input)) c.loop-test.true (is_more _ _ c.left.ensures c.if-left-eq0.false) c.in_ok-instr.ensures c.loop.invariant)

pub returns : goal.returns
returns c = instrs_spent c.args.pool.now c.loop.code c.args.most c.loop.counter (input_of c.loop.rest) (instructions_at c.args.pool.now c.args.most (input_of c.args.input)) c.loop-test.false c.loop.invariant
