-- Names of a file, and what they stand for.
use Rattle.std.specs.Prelude.{ℕ, ◌-◌, Bool, nat_eq, List, take, drop, Option}
use Rattle.std.specs.Cmp.Lexicographic.{pointwise}
use Rattle.std.specs.List.{find}
use Rattle.form_parser.specs.declared.tokens.Place.{Place}
use Rattle.form_elaboration.specs.declared.scope.Visible.{Visible}

-- the units at a place of the text
abbrev pub spelling : List ℕ → Place → List ℕ
spelling text p = take (p.end - p.start) (drop p.start text)

abbrev pub same_spelling : List ℕ → Place → Place → Bool
same_spelling text a b = pointwise nat_eq (spelling text a) (spelling text b)

-- what a name stands for among what is in scope
abbrev pub found : List ℕ → List Visible → Place → Option Visible
found text visible name = find (λ one. same_spelling text one.name name) visible
