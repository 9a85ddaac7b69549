use Rattle.std.proofs.Common.{◌≡◌, drop, nat_eq}
use Rattle.std.specs.Cmp.Lexicographic.{pointwise}
use Rattle.class_machine.proofs.linking.is_text.Given as goal

abbrev pub invariant-loop-at : goal.invariant-loop-at
invariant-loop-at l = pointwise nat_eq l.text l.ascii ≡ pointwise nat_eq (drop l.at l.text) (drop l.at l.ascii)
