use Rattle.std.proofs.Common.{◌≡◌, drop, length, map}
use Rattle.class_file.specs.Typing.{all_assignable}
use Rattle.verifier_types.specs.Seen.{type_of}
use Rattle.verifier.proofs.given.stack_fits.Given as goal

abbrev pub invariant-loop-at : goal.invariant-loop-at
invariant-loop-at l = record {
  lengths : length l.stack ≡ length l.types;
  same : all_assignable l.set (drop l.at (map type_of l.stack)) (drop l.at l.types) ≡ all_assignable l.set (map type_of l.stack) l.types;
}
