use Rattle.std.proofs.Common.{◌≡◌, length, take}
use Rattle.std.specs.Prelude.{map}
use Rattle.class_machine.specs.Links.{parts, all_parts}
use Rattle.class_machine.proofs.linking.link_classes.Given as goal

abbrev pub invariant-loop-class : goal.invariant-loop-class
invariant-loop-class l = record {
  done : map parts l.linked.items ≡ all_parts l.set.classes 0 (take l.class-index l.set.classes);
  count : length l.linked.items ≡ l.class-index;
}
