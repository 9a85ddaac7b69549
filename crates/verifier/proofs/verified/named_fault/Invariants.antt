use Rattle.std.proofs.Common.{◌≡◌, drop}
use Rattle.class_file.specs.Verification.{classes_fault}
use Rattle.verifier.proofs.verified.named_fault.Given as goal

abbrev pub invariant-loop-n : goal.invariant-loop-n
invariant-loop-n l = classes_fault l.set l.n (drop l.n l.classes) ≡ classes_fault l.set 0 l.classes
