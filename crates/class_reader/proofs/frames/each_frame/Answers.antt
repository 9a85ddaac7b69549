use Rattle.std.proofs.Common.{◌≡◌, ◌∷◌, [], ◌++◌, ◌-◌, ◌+◌, arith, subst, sym, ap, ◌∙◌, List}
use Rattle.std.proofs.lemmas.Result.{err_from_is_err_and}
use Rattle.class_file.specs.declared.class.VType.{VType}
use Rattle.class_file.specs.ClassBytes.{Before}
use Rattle.class_file.specs.FormatFaults.{frames_at}
use Rattle.class_file.specs.Fronts.{common_front}
use Rattle.class_reader.specs.Frames.{before, started}
use Rattle.class_reader.specs.Reads.{input_of}
use Rattle.class_reader.proofs.Fronts.{last_pushed}
use Rattle.class_reader.proofs.Loops.{with_front}
use Rattle.class_reader.proofs.Tables.{frames_table, goes_on, ends, is_done, next_before}
use Rattle.class_reader.proofs.frames.each_frame.Goals as goal

pub frame_at-requires : goal.frame_at-requires
frame_at-requires c = omega (arith, c.loop.invariant.small)

pub returns-in_err-given : goal.returns-in_err-given
returns-in_err-given c =
    let p = err_from_is_err_and c.from_residual-in_err-given.result c.from_residual-in_err-given.ensures.1 in
    rw (p.1, p.2) (ends (frames_table c.args.pool.now) c.in_err-given.field-0.0 c.loop.frames c.args.count c.loop.counter (before c.loop.first c.loop.locals) (input_of c.loop.rest) (frames_at c.args.pool.now c.args.count (started c.args.start.now) (input_of c.args.input)) c.loop-test.true c.in_err-given.ensures.exact c.loop.invariant.so_far)

pub push_behind-requires : goal.push_behind-requires
push_behind-requires c =
    let ts = c.in_ok-given.given.frame.locals in
    c.front_behind-front.ensures c.args.start.now (c.in_ok-given.ensures.front ∙ ap (λ (before : List VType). common_front before ts) (sym c.loop.invariant.behind))

pub loop-preserved : goal.loop-preserved
loop-preserved c =
    let f = c.in_ok-given.given.frame in
    let front = c.loop.frames ++ f ∷ [] in
    let total = frames_at c.args.pool.now c.args.count (started c.args.start.now) (input_of c.args.input) in
    let next = goes_on (frames_table c.args.pool.now) c.loop.frames c.args.count c.loop.counter (before c.loop.first c.loop.locals) (input_of c.loop.rest) (input_of c.in_ok-given.behind) f total c.loop-test.true c.in_ok-given.ensures.exact c.loop.invariant.so_far in
    let b = next_before f ∙ ap (λ (ts : List VType). before (f.at + 1) ts) c.in_ok-given.ensures.locals in
    record {
      so_far = rw c.in_ok-push_behind.ensures.ok (subst (λ (b : Before). with_front front (frames_at c.args.pool.now (c.args.count - (c.loop.counter + 1)) b (input_of c.in_ok-given.behind)) ≡ total) b next);
      behind = rw c.in_ok-push_behind.ensures.ok (last_pushed c.args.start.now c.loop.frames f ∙ c.in_ok-given.ensures.locals);
      small = omega (arith, c.in_ok-given.ensures.near, c.loop.invariant.small);
    }

pub returns : goal.returns
returns c = is_done (frames_table c.args.pool.now) c.loop.frames c.args.count c.loop.counter (before c.loop.first c.loop.locals) (input_of c.loop.rest) (frames_at c.args.pool.now c.args.count (started c.args.start.now) (input_of c.args.input)) c.loop-test.false c.loop.invariant.so_far
