use Rattle.std.proofs.Common.{◌≤◌, ◌-◌}
use Rattle.class_machine.specs.Core.{core_of}
use Rattle.class_machine.specs.Runs.{Reached}
use Rattle.class_machine.proofs.steps.run_on.Given as goal

abbrev pub invariant-loop-made : goal.invariant-loop-made
invariant-loop-made g l = record {
  reached : Reached l.set (core_of l.fn.run) (core_of l.run) l.made (g.O.Sink.taken l.fn.out) (g.O.Sink.taken l.out);
  faults : g.O.Sink.faults l.fn.out ≤ g.O.Sink.faults l.out;
  within : l.made ≤ l.steps;
}

abbrev pub decreases-loop-made : goal.decreases-loop-made
decreases-loop-made g l = l.steps - l.made
