use Rattle.std.proofs.Common.{◌≡◌, ◌+◌, drop, map, Bor}
use Rattle.class_file.specs.declared.class.VType.{VType}
use Rattle.class_reader.specs.Locals.{set_before}
use Rattle.class_reader.proofs.locals.set_before.Given as goal

abbrev pub invariant-loop-kept : goal.invariant-loop-kept
invariant-loop-kept l = record {
  so_far : l.count + set_before (map (λ (k : Bor VType). k.now) (drop l.kept-index l.types)) ≡ set_before (map (λ (k : Bor VType). k.now) l.types);
  place : l.count ≡ l.kept-index;
}
