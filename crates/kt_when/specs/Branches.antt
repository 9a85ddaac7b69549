-- Parts of branches, and what is built of them.
use Rattle.std.specs.Prelude.{◌≡◌, ℕ, Bool, ◌||◌, List, [], drop, Result, Ok, Err, Option}
use Rattle.grammars.specs.Grammar.{Part, next, row, both, choose, Cst, pair, right, first}
use Rattle.kc_text.specs.declared.errors.Fail.{Fail}
use Rattle.kc_tree.specs.declared.expr.Cond.{Cond}
use Rattle.kc_tree.specs.declared.expr.Branch.{Branch}
use Rattle.kt_lexer.specs.declared.token.Token.{Token}
use Rattle.kt_lexer.specs.declared.token.Keyword.TheVariants as keyword
use Rattle.kt_lexer.specs.declared.token.Operator.TheVariants as operator
use Rattle.kt_grammar.specs.declared.cursor.Cursor.{Cursor}
use Rattle.kt_grammar.specs.Built as built
use Rattle.kt_grammar.specs.Parsed.{Advanced, Halts}
use Rattle.kt_grammar.specs.Rows as rows
use Rattle.kt_grammar.specs.Rows.{Row, op, word}
use Rattle.kt_grammar.specs.Tokens.{is_word, marked, begins_condition}
use Rattle.kt_grammar.specs.TypesBuilt.{first_of, last_of, between}
use Rattle.kt_when.specs.Conditions.{all_conditions, all_of, first_condition}

-- ---- how branches follow one another

abbrev pub begins_branch : Token → Bool
begins_branch t = is_word keyword.Else t || begins_condition t

-- behind another one with no `;` between them
abbrev pub begins_further_branch : Token → Bool
begins_further_branch t = is_word keyword.Else t || marked begins_condition t

-- ---- what stands before the arrow

abbrev pub head : Part Row Token
head = choose (next (is_word keyword.Else)) (word keyword.Else) all_conditions

abbrev pub conditions_of_head : Cst Token → List Cond
conditions_of_head (right x) = all_of x
conditions_of_head _ = []

-- the token with which a branch begins
abbrev pub begin_of : Cst Token → Option Token
begin_of (right x) = first_of (first_condition x)
begin_of x = first_of x

pub record Head (ts : List Token) (start end : Cursor) (xs : List Cond) : Type 0 where
  pub advanced : Advanced head conditions_of_head ts start end xs
  pub begins : begin_of advanced.tree ≡ first (drop start.at ts)

abbrev pub ReadsHead : List Token → Cursor → Result (List Cond × Cursor) (Fail ℕ) → Type 0
ReadsHead ts start (Ok p) = Head ts start p.1 p.0
ReadsHead ts start (Err e) = Halts head ts start e

-- ---- what stands behind it

abbrev pub arrow_and_body : Part Row Token
arrow_and_body = both (op operator.Arrow) (row rows.statement)

-- with the token at which the branch begins, and its conditions
abbrev pub branch : Option Token → List Cond → Cst Token → Branch
branch t xs y = record { span = between t (last_of y); conds = xs; body = built.as_body (built.statement_of y) }

abbrev pub behind_head : Option Token → List Cond → Cst Token → Branch
behind_head t xs (pair arrow y) = branch t xs y
behind_head t xs y = branch t xs y
