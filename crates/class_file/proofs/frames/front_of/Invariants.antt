use Rattle.std.proofs.Common.{◌≡◌, ℕ, ◌+◌, List, drop, map, Bor}
use Rattle.class_file.specs.declared.class.VType.{VType}
use Rattle.class_file.specs.Fronts.{common_front}
use Rattle.class_file.proofs.frames.front_of.Given as goal

-- what both lists have in common so far, and how many of the first that are
pub record InCommon (types others left rest : List VType) (front index : ℕ) : Type 0 where
  pub so_far : common_front left rest + front ≡ common_front types others
  pub counted : front ≡ index

abbrev seen : List (Bor VType) → List VType
seen ks = map (λ (k : Bor VType). k.now) ks

abbrev pub invariant-loop-kept : goal.invariant-loop-kept
invariant-loop-kept l = InCommon (seen l.types) (seen l.others) (seen (drop l.kept-index l.types)) (seen l.rest) l.front l.kept-index
