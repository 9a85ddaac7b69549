use Rattle.std.proofs.Common.{◌≡◌, drop}
use Rattle.class_file.specs.Verification.{methods_fault}
use Rattle.verifier.proofs.verified.methods_fault.Given as goal

abbrev pub invariant-loop-n : goal.invariant-loop-n
invariant-loop-n l = methods_fault l.set l.number l.class l.n (drop l.n l.methods) ≡ methods_fault l.set l.number l.class 0 l.methods
