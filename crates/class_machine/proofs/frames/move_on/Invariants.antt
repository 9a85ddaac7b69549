use Rattle.std.proofs.Common.{◌≡◌, Some}
use Rattle.class_machine.specs.Plain.{moved_times}
use Rattle.class_machine.specs.Stacks.{shown, SameMethod}
use Rattle.class_machine.proofs.frames.move_on.Given as goal

abbrev pub invariant-loop-made : goal.invariant-loop-made
invariant-loop-made l = record {
  moved : moved_times l.ops l.made (shown l.fn.f) ≡ Some (shown l.f);
  same : SameMethod l.fn.f l.f;
}
