-- The brackets that are open, from the innermost on. A string counts as a bracket from its opening quote to its closing one, and so
-- does a hole of a string.
use Rattle.std.specs.Prelude.{ℕ, List, [], ◌∷◌, Option, Some, None}
use Rattle.kt_lexer.specs.declared.pieces.Open.{Open}
use Rattle.kt_lexer.specs.declared.pieces.Open.TheVariants as bracket

abbrev pub innermost : List Open → Option Open
innermost [] = None
innermost (o ∷ os) = Some o

abbrev pub outer : List Open → List Open
outer [] = []
outer (o ∷ os) = os

-- the opening quote of the innermost string that is open
abbrev pub open_quote : List Open → Option ℕ
open_quote [] = None
open_quote (bracket.Quote at ∷ os) = Some at
open_quote (_ ∷ os) = open_quote os
