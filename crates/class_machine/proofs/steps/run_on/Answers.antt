use Rattle.std.proofs.Common.{◌+◌, arith, refl}
use Rattle.class_file.specs.Machine.{step}
use Rattle.class_machine.specs.Core.{core_of, state_of}
use Rattle.class_machine.proofs.Moving.{reached_on}
use Rattle.class_machine.proofs.Stepping.{on_err, cut_nothing, step_keeps}
use Rattle.class_machine.proofs.Sequences.{reached_start, can_step, still_safe, reached_more, run_ends, run_cut, run_on_still}
use Rattle.class_machine.proofs.steps.run_on.Goals as goal

pub loop-made-init : goal.loop-made-init
loop-made-init g c = record { reached = reached_start c.args.set.now (core_of c.args.run.now) _; faults = omega arith; within = omega arith }

pub move_on-requires-clause-safe : goal.move_on-requires-clause-safe
move_on-requires-clause-safe g c = still_safe c.args.set.now (core_of c.args.run.now) (core_of c.loop-made.run) c.loop-made.made _ _ c.loop-made.invariant.reached c.requires.safe

pub returns-in_err-more-clause-err : goal.returns-in_err-more-clause-err
returns-in_err-more-clause-err g c =
    on_err _ _ (run_cut c.args.set.now (core_of c.args.run.now) (core_of c.loop-made.run) c.loop-made.made _ _ c.loop-made.invariant.reached c.args.steps _ c.loop-made-test.true
    (cut_nothing _ _ (λ input earlier. step c.args.set.now (state_of c.args.set.now (core_of c.loop-made.run) input earlier)) refl (step_keeps c.args.set.now (core_of c.loop-made.run))))

pub returns-in_err-more-clause-faults : goal.returns-in_err-more-clause-faults
returns-in_err-more-clause-faults g c = c.loop-made.invariant.faults

pub returns-then-made-steps-clause-ok : goal.returns-then-made-steps-clause-ok
returns-then-made-steps-clause-ok g c =
    run_on_still c.args.set.now (core_of c.args.run.now) (core_of c.move_on.new.run) (c.loop-made.made + c.in_ok-more.more) _ _ (reached_on c.args.set.now (core_of c.args.run.now) (core_of c.loop-made.run) (core_of c.move_on.new.run) c.loop-made.made c.in_ok-more.more _ _ c.loop-made.invariant.reached c.in_ok-more.ensures.moved) c.args.steps (omega (arith, c.if-made-steps.true, c.in_ok-more.ensures.few, c.loop-made.invariant.within))

pub returns-then-made-steps-clause-faults : goal.returns-then-made-steps-clause-faults
returns-then-made-steps-clause-faults g c = c.loop-made.invariant.faults

pub step-requires-clause-can : goal.step-requires-clause-can
step-requires-clause-can g c = can_step c.args.set.now (core_of c.args.run.now) (core_of c.move_on.new.run) (c.loop-made.made + c.in_ok-more.more) _ _ (reached_on c.args.set.now (core_of c.args.run.now) (core_of c.loop-made.run) (core_of c.move_on.new.run) c.loop-made.made c.in_ok-more.more _ _ c.loop-made.invariant.reached c.in_ok-more.ensures.moved) c.requires.safe

pub step-requires-clause-stopped : goal.step-requires-clause-stopped
step-requires-clause-stopped g c = c.in_ok-more.ensures.stops (omega (arith, c.if-made-steps.false))

pub returns-in_err-other-clause-err : goal.returns-in_err-other-clause-err
returns-in_err-other-clause-err g c =
    on_err _ _ (run_cut c.args.set.now (core_of c.args.run.now) (core_of c.move_on.new.run) (c.loop-made.made + c.in_ok-more.more) _ _ (reached_on c.args.set.now (core_of c.args.run.now) (core_of c.loop-made.run) (core_of c.move_on.new.run) c.loop-made.made c.in_ok-more.more _ _ c.loop-made.invariant.reached c.in_ok-more.ensures.moved) c.args.steps _ (omega (arith, c.if-made-steps.false)) c.in_err-other.ensures.err)

pub returns-in_err-other-clause-faults : goal.returns-in_err-other-clause-faults
returns-in_err-other-clause-faults g c = omega (arith, c.loop-made.invariant.faults, c.in_err-other.ensures.faults)

pub returns-in_default-clause-ok : goal.returns-in_default-clause-ok
returns-in_default-clause-ok g c =
    run_ends c.args.set.now (core_of c.args.run.now) (core_of c.move_on.new.run) (c.loop-made.made + c.in_ok-more.more) _ _ (reached_on c.args.set.now (core_of c.args.run.now) (core_of c.loop-made.run) (core_of c.move_on.new.run) c.loop-made.made c.in_ok-more.more _ _ c.loop-made.invariant.reached c.in_ok-more.ensures.moved) c.args.steps c.in_ok-other.other (core_of c.step.new.run) _ (omega (arith, c.if-made-steps.false)) c.in_default.not-On c.in_ok-other.ensures.ok

pub returns-in_default-clause-faults : goal.returns-in_default-clause-faults
returns-in_default-clause-faults g c = omega (arith, c.loop-made.invariant.faults, c.in_ok-other.ensures.faults)

pub loop-made-preserved : goal.loop-made-preserved
loop-made-preserved g c = record {
  reached = reached_more c.args.set.now (core_of c.args.run.now) (core_of c.move_on.new.run) (c.loop-made.made + c.in_ok-more.more) _ _ (reached_on c.args.set.now (core_of c.args.run.now) (core_of c.loop-made.run) (core_of c.move_on.new.run) c.loop-made.made c.in_ok-more.more _ _ c.loop-made.invariant.reached c.in_ok-more.ensures.moved) (core_of c.step.new.run) _ (rw c.in-On.is at c.in_ok-other.ensures.ok);
  faults = omega (arith, c.loop-made.invariant.faults, c.in_ok-other.ensures.faults);
  within = omega (arith, c.if-made-steps.false);
}

pub returns-clause-ok : goal.returns-clause-ok
returns-clause-ok g c =
    run_on_still c.args.set.now (core_of c.args.run.now) (core_of c.loop-made.run) c.loop-made.made _ _ c.loop-made.invariant.reached c.args.steps (omega (arith, c.loop-made-test.false, c.loop-made.invariant.within))

pub returns-clause-faults : goal.returns-clause-faults
returns-clause-faults g c = c.loop-made.invariant.faults
