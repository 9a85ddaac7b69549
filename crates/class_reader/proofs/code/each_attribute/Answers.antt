use Rattle.std.proofs.Common.{true, [], None, sym, ◌∙◌}
use Rattle.std.proofs.lemmas.Result.{err_from_is_err_and}
use Rattle.class_file.specs.ClassBytes.{stack_map_table}
use Rattle.class_file.specs.FormatFaults.{attributes, among_at, stack_map_at}
use Rattle.class_reader.specs.Frames.{started}
use Rattle.class_reader.specs.Reads.{input_of}
use Rattle.class_reader.proofs.Among.{name_ends, refused_again, inside_ends, kept_ends, goes_on_known, goes_on_other, is_done}
use Rattle.class_reader.proofs.code.each_attribute.Goals.{then-is_stack_map_table+else-is_refused+in_ok-frames, else-is_stack_map_table+in_ok-bytes+in_ok-attribute+in_ok-push}
use Rattle.class_reader.proofs.code.each_attribute.Goals as goal

pub returns-in_err-name : goal.returns-in_err-name
returns-in_err-name c =
    let p = err_from_is_err_and c.from_residual.result c.from_residual.ensures.1 in
    rw (p.1, p.2) (name_ends c.args.pool.now stack_map_table true (stack_map_at c.args.pool.now (started c.args.start.now)) c.in_err-name.field-0.0 c.args.count c.loop.counter (attributes c.loop.known c.loop.others) (input_of c.loop.rest) (among_at c.args.pool.now stack_map_table true (stack_map_at c.args.pool.now (started c.args.start.now)) c.args.count (attributes None []) (input_of c.args.input)) c.loop-test.true c.in_err-name.ensures c.loop.invariant)

pub returns-then-is_refused : goal.returns-then-is_refused
returns-then-is_refused c =
    rw c.fault.ensures (refused_again c.args.pool.now stack_map_table true (stack_map_at c.args.pool.now (started c.args.start.now)) c.args.count c.loop.counter (attributes c.loop.known c.loop.others) (input_of c.loop.rest) (input_of c.in_ok-name.behind) c.in_ok-name.name.now (among_at c.args.pool.now stack_map_table true (stack_map_at c.args.pool.now (started c.args.start.now)) c.args.count (attributes None []) (input_of c.args.input)) c.loop-test.true c.in_ok-name.ensures (sym c.is_stack_map_table.ensures ∙ c.if-is_stack_map_table.true) (sym c.is_refused.ensures ∙ c.if-is_refused.true) c.loop.invariant)

pub returns-in_err-frames : goal.returns-in_err-frames
returns-in_err-frames c =
    let p = err_from_is_err_and c.from_residual-in_err-frames.result c.from_residual-in_err-frames.ensures.1 in
    rw (p.1, p.2) (inside_ends c.args.pool.now stack_map_table true (stack_map_at c.args.pool.now (started c.args.start.now)) c.in_err-frames.field-0.0 c.args.count c.loop.counter (attributes c.loop.known c.loop.others) (input_of c.loop.rest) (input_of c.in_ok-name.behind) c.in_ok-name.name.now (among_at c.args.pool.now stack_map_table true (stack_map_at c.args.pool.now (started c.args.start.now)) c.args.count (attributes None []) (input_of c.args.input)) c.loop-test.true c.in_ok-name.ensures (sym c.is_stack_map_table.ensures ∙ c.if-is_stack_map_table.true) (sym c.is_refused.ensures ∙ c.if-is_refused.false) c.in_err-frames.ensures c.loop.invariant)

pub returns-in_err-bytes : goal.returns-in_err-bytes
returns-in_err-bytes c =
    let p = err_from_is_err_and c.from_residual-in_err-bytes.result c.from_residual-in_err-bytes.ensures.1 in
    rw (p.1, p.2) (kept_ends c.args.pool.now stack_map_table true (stack_map_at c.args.pool.now (started c.args.start.now)) c.in_err-bytes.field-0.0 c.args.count c.loop.counter (attributes c.loop.known c.loop.others) (input_of c.loop.rest) (input_of c.in_ok-name.behind) c.in_ok-name.name.now (among_at c.args.pool.now stack_map_table true (stack_map_at c.args.pool.now (started c.args.start.now)) c.args.count (attributes None []) (input_of c.args.input)) c.loop-test.true c.in_ok-name.ensures (sym c.is_stack_map_table.ensures ∙ c.if-is_stack_map_table.false) c.in_err-bytes.ensures c.loop.invariant)

pub loop-preserved : goal.loop-preserved
loop-preserved c =
    elim c.if-is_stack_map_table.branch [
      | then-is_stack_map_table+else-is_refused+in_ok-frames w ↦
          rw (w.known-is, w.others-is, w.rest-is)
          (goes_on_known c.args.pool.now stack_map_table true (stack_map_at c.args.pool.now (started c.args.start.now)) c.args.count c.loop.counter (attributes c.loop.known c.loop.others) (input_of c.loop.rest) (input_of c.in_ok-name.behind) (input_of w.in_ok-frames.behind) c.in_ok-name.name.now _ (among_at c.args.pool.now stack_map_table true (stack_map_at c.args.pool.now (started c.args.start.now)) c.args.count (attributes None []) (input_of c.args.input)) c.loop-test.true c.in_ok-name.ensures (sym c.is_stack_map_table.ensures ∙ w.if-is_stack_map_table.true) (sym w.is_refused.ensures ∙ w.if-is_refused.false) w.in_ok-frames.ensures c.loop.invariant)
      | else-is_stack_map_table+in_ok-bytes+in_ok-attribute+in_ok-push w ↦
          rw (w.known-is, w.others-is, w.rest-is, w.in_ok-push.ensures.ok, w.in_ok-attribute.ensures)
          (goes_on_other c.args.pool.now stack_map_table true (stack_map_at c.args.pool.now (started c.args.start.now)) c.args.count c.loop.counter c.loop.known c.loop.others (input_of c.loop.rest) (input_of c.in_ok-name.behind) (input_of w.in_ok-bytes.behind) c.in_ok-name.name.now w.in_ok-bytes.bytes.now (among_at c.args.pool.now stack_map_table true (stack_map_at c.args.pool.now (started c.args.start.now)) c.args.count (attributes None []) (input_of c.args.input)) c.loop-test.true c.in_ok-name.ensures (sym c.is_stack_map_table.ensures ∙ w.if-is_stack_map_table.false) w.in_ok-bytes.ensures c.loop.invariant)
    ]

pub returns : goal.returns
returns c = is_done c.args.pool.now stack_map_table true (stack_map_at c.args.pool.now (started c.args.start.now)) c.args.count c.loop.counter (attributes c.loop.known c.loop.others) (input_of c.loop.rest) (among_at c.args.pool.now stack_map_table true (stack_map_at c.args.pool.now (started c.args.start.now)) c.args.count (attributes None []) (input_of c.args.input)) c.loop-test.false c.loop.invariant
