use Rattle.std.proofs.Common.{◌≡◌, drop}
use Rattle.kc_types.specs.Ranks.{are_lower_from}
use Rattle.kc_types.proofs.acyclic.are_all_lower.Given as goal

abbrev pub invariant-loop-class : goal.invariant-loop-class
invariant-loop-class l = are_lower_from l.ranks l.class (drop l.class l.classes) ≡ are_lower_from l.ranks 0 l.classes
