use Rattle.std.proofs.Common.{◌≡◌, ◌-◌, ◌≤◌, Bor, drop, length, map}
use Rattle.class_file.specs.declared.class.VType.{VType}
use Rattle.class_file.specs.Typing.{all_assignable}
use Rattle.class_file.specs.Verification.{spread, padded}
use Rattle.verifier_types.specs.Seen.{type_of}
use Rattle.verifier.proofs.given.locals_fit.Given as goal

abbrev pub invariant-loop-t : goal.invariant-loop-t
invariant-loop-t l = record {
  within : l.at ≤ length l.locals;
  same : all_assignable l.set (drop l.at (map type_of l.locals)) (padded (l.max - l.at) (spread (map (λ (t : Bor VType). t.now) (drop l.t-index l.types)))) ≡ all_assignable l.set (map type_of l.locals) (padded l.max (spread (map (λ (t : Bor VType). t.now) l.types)));
}
