use Rattle.std.proofs.Common.{◌≡◌, length}
use Rattle.class_machine.specs.Core.{frames_of}
use Rattle.class_machine.specs.Throws.{unwound_by}
use Rattle.class_machine.proofs.throws.unwind.Given as goal

abbrev pub invariant-loop-frame : goal.invariant-loop-frame
invariant-loop-frame l = unwound_by l.links l.exception l.thrown (frames_of l.fn.frames.items) ≡ unwound_by l.links l.exception l.thrown (frames_of l.frames.items)

abbrev pub decreases-loop-frame : goal.decreases-loop-frame
decreases-loop-frame l = length l.frames.items
