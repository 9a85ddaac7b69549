-- What a chain of links holds.
use Rattle.std.specs.Prelude.{List, [], ◌∷◌, ◌++◌}
use Rattle.shared_list.specs.declared.chain.Chain.{Chain}
use Rattle.shared_list.specs.declared.chain.Chain.TheVariants.{End, Link'}

-- the elements in order: a link holds the last one
abbrev pub elements : {T : Type 0} → Chain T → List T
elements End = []
elements (Link' x p rest) = elements rest ++ x ∷ []
