-- A small grammar that is fair and has two derivations of some lists: an `else` belongs to the innermost `if` that can take it.
use Rattle.std.specs.Prelude.{◌≡◌, Bool, true, false, List, [], ◌∷◌, ◌⊎◌}
use Rattle.grammars.specs.Grammar.{Part, nothing, one, row, both, choose, next, Cst, none, leaf, node, pair, left, right, Derives}
use Rattle.grammars.specs.Order.{Prefers}

pub data Word : Type 0 where
  if_ : Word
  else_ : Word
  name : Word

abbrev pub is_if : Word → Bool
is_if if_ = true
is_if else_ = false
is_if name = false

abbrev pub is_else : Word → Bool
is_else if_ = false
is_else else_ = true
is_else name = false

abbrev pub is_name : Word → Bool
is_name if_ = false
is_name else_ = false
is_name name = true

pub data Row : Type 0 where
  statement : Row

abbrev pub else_part : Part Row Word
else_part = both (one is_else) (row statement)

-- statement : 'if' statement ('else' statement)? | NAME
abbrev pub grammar : Row → Part Row Word
grammar statement = choose (next is_if) (both (one is_if) (both (row statement) (choose (next is_else) else_part nothing))) (one is_name)

abbrev pub a_name : Cst Word
a_name = node (right (leaf name))

abbrev pub with_else : Cst Word → Cst Word → Cst Word
with_else x y = node (left (pair (leaf if_) (pair x (left (pair (leaf else_) y)))))

abbrev pub without_else : Cst Word → Cst Word
without_else x = node (left (pair (leaf if_) (pair x (right none))))

abbrev pub words : List Word
words = if_ ∷ if_ ∷ name ∷ else_ ∷ name ∷ []

-- both are derivations of the words, and any but the first, with the `else` within, comes behind it
abbrev pub ElseIsInner : Type 0
ElseIsInner = Derives grammar (row statement) words (without_else (with_else a_name a_name)) []
    × Derives grammar (row statement) words (with_else (without_else a_name) a_name) []
    × ((y : Cst Word) → Derives grammar (row statement) words y [] → (without_else (with_else a_name a_name) ≡ y) ⊎ Prefers (without_else (with_else a_name a_name)) y)
