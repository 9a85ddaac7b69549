use Rattle.std.proofs.Common.{◌≡◌, drop, nat_eq, length}
use Rattle.std.specs.Cmp.Lexicographic.{pointwise}
use Rattle.verifier_types.proofs.built_ins.is_ascii_text.Given as goal

abbrev pub invariant-loop-at : goal.invariant-loop-at
invariant-loop-at l = record {
  lengths : length l.units ≡ length l.ascii;
  same : pointwise nat_eq (drop l.at l.ascii) (drop l.at l.units) ≡ pointwise nat_eq l.ascii l.units;
}
