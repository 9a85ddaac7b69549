-- The words that are names to the lexer and mean something at some places of the grammar.
use Rattle.std.specs.Prelude.{ℕ, List, [], ◌∷◌, codes}
use Rattle.kc_text.specs.NameList.{KeepsNumbers}

-- in the order of their numbers, from 0: those of expressions and types, of members and files, and the modifiers
abbrev pub reserved : List (List ℕ)
reserved =
    codes "catch" ∷ codes "finally" ∷ codes "out"
    ∷ codes "get" ∷ codes "set" ∷ codes "init" ∷ codes "constructor" ∷ codes "import"
    ∷ codes "public" ∷ codes "internal" ∷ codes "private" ∷ codes "final" ∷ codes "open" ∷ codes "abstract" ∷ codes "sealed" ∷ codes "data"
    ∷ codes "enum" ∷ codes "override" ∷ codes "operator" ∷ codes "infix" ∷ codes "inline" ∷ codes "const" ∷ codes "vararg" ∷ codes "noinline"
    ∷ codes "crossinline" ∷ codes "reified" ∷ []

-- The list of names begins with these words. It stays so when names are added.
abbrev pub HasReserved : List (List ℕ) → Type 0
HasReserved names = KeepsNumbers reserved names
