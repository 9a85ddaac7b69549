use Rattle.std.proofs.Common.{◌≡◌, map, take}
use Rattle.verifier_types.proofs.named_set.statics_of.Given as goal

abbrev pub invariant-loop-class : goal.invariant-loop-class
invariant-loop-class l = l.all.items ≡ map (λ c. c.methods) (take l.class-index l.classes)
