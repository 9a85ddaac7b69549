use Rattle.std.proofs.Common.{◌≡◌, ◌++◌}
use Rattle.class_file.proofs.frames.Frames.from_vec.Given as goal

abbrev pub invariant-loop-frame : goal.invariant-loop-frame
invariant-loop-frame l = l.all ++ l.frame-iterator.rest.items ≡ l.fn.frames.items
