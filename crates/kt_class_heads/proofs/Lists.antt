-- Lists that are built from one that is handed in.
use Rattle.std.proofs.Common.{◌≡◌, ℕ, List, [], ◌++◌, Result, subst}
use Rattle.grammars.specs.Grammar.{Part, Cst}
use Rattle.kc_text.specs.declared.errors.Fail.{Fail}
use Rattle.kt_lexer.specs.declared.token.Token.{Token}
use Rattle.kt_grammar.specs.declared.cursor.Cursor.{Cursor}
use Rattle.kt_grammar.specs.Parsed.{Advances}
use Rattle.kt_grammar.specs.Rows.{Row}

-- the list that is handed in has no element
pub from_none : {X : Type 0} (a : Part Row Token) (all : Cst Token → List X) (none_yet : List X) → none_yet ≡ [] → (ts : List Token) (start : Cursor) (r : Result (List X × Cursor) (Fail ℕ))
    → Advances a (λ c. none_yet ++ all c) ts start r → Advances a all ts start r
from_none a all none_yet e ts start r p = subst (λ xs. Advances a (λ c. xs ++ all c) ts start r) e p
