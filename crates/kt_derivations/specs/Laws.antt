-- The laws of the grammar for whole lists, and why they need its rules.
use Rattle.std.specs.Prelude.{◌≡◌, Bool, List, [], ◌⊎◌}
use Rattle.grammars.specs.Grammar.{row, Cst, Reads, Stuck}
use Rattle.grammars.specs.Order.{Prefers}
use Rattle.kt_lexer.specs.declared.token.Token.{Token}
use Rattle.kt_grammar.specs.Rows.{Row, grammar}
use Rattle.bound_grammars.specs.Obeying.{Among, Obeys, IsFaultBut}
use Rattle.bound_grammars.specs.Clear.{IsDecidedBut, IsClearBut}
use Rattle.kt_derivations.specs.Rules.{far_tests, rules}

-- all rows are clear but for the rules, and decided but for those that look farther than the next token
abbrev pub RowsAreClear : Type 0
RowsAreClear = ((empty : Row → Bool) × IsClearBut grammar empty (Among rules)) × IsDecidedBut grammar (Among far_tests)

-- a whole list with a derivation by a row that obeys the rules has that one as its reading, and no other
abbrev pub WholeIsRead : Type 0
WholeIsRead = (n : Row) (ts : List Token) (x : Cst Token)
    → Obeys grammar (Among rules) (row n) ts x [] → Reads grammar (row n) ts x [] × ((y : Cst Token) (r : List Token) → Reads grammar (row n) ts y r → (x ≡ y) × (r ≡ []))

-- a reading comes before each other derivation of tokens with which the list begins that obeys the rules that look farther
abbrev pub ReadingIsPreferred : Type 0
ReadingIsPreferred = (n : Row) (ts r s : List Token) (x y : Cst Token)
    → Reads grammar (row n) ts x r → Obeys grammar (Among far_tests) (row n) ts y s → (x ≡ y) ⊎ Prefers x y

-- where a row is stuck, no list that goes on with the token there has a derivation that obeys the rules
abbrev pub StuckIsFault : Type 0
StuckIsFault = (n : Row) (ts rest : List Token) → Stuck grammar (row n) ts rest → IsFaultBut grammar (Among rules) (row n) ts rest
