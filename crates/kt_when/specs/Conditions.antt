-- Parts of conditions, and what is built of them.
use Rattle.std.specs.Prelude.{◌≡◌, ℕ, List, [], ◌++◌, drop, Result, Ok, Err}
use Rattle.grammars.specs.Grammar.{Part, next, one, row, both, choose, Cst, pair, first}
use Rattle.kc_text.specs.declared.errors.Fail.{Fail}
use Rattle.kc_tree.specs.declared.fault.Span.{Span}
use Rattle.kc_tree.specs.declared.expr.Expr.{Expr}
use Rattle.kc_tree.specs.declared.expr.Cond.{Cond}
use Rattle.kc_tree.specs.declared.expr.Cond.TheVariants as cond
use Rattle.kc_tree.specs.declared.types.«Type».{«Type»}
use Rattle.kt_lexer.specs.declared.token.Token.{Token}
use Rattle.kt_grammar.specs.declared.cursor.Cursor.{Cursor}
use Rattle.kt_grammar.specs.Built as built
use Rattle.kt_grammar.specs.Built.{across, is_negated}
use Rattle.kt_grammar.specs.Parsed.{Advanced, Halts}
use Rattle.kt_grammar.specs.Rows as rows
use Rattle.kt_grammar.specs.Rows.{Row}
use Rattle.kt_grammar.specs.Tokens.{is_is}
use Rattle.kt_grammar.specs.TypesBuilt.{first_of}

-- by the token before the value
abbrev pub contained : Token → Expr → Cond
contained t x = cond.In (across t.span x.span) (is_negated t.kind) x

-- by the token before the type, which stands at the place
abbrev pub typed : Token → «Type» → Span → Cond
typed t ty s = cond.Is (across t.span s) (is_negated t.kind) ty

abbrev pub value : Expr → Cond
value x = cond.Value x

-- `is` with a type, or a value
abbrev pub without_in : Part Row Token
without_in = choose (next is_is) (both (one is_is) (row rows.type_before_arrow)) (row rows.expression)

-- the first, and those behind it
abbrev pub all_conditions : Part Row Token
all_conditions = both (row rows.condition) (row rows.conditions)

abbrev pub all_of : Cst Token → List Cond
all_of (pair x more) = built.condition_of x ++ built.conditions_of more
all_of _ = []

-- the first one's tree
abbrev pub first_condition : Cst Token → Cst Token
first_condition (pair x more) = x
first_condition x = x

-- they begin with the token at which the first one begins
pub record AllConditions (ts : List Token) (start end : Cursor) (xs : List Cond) : Type 0 where
  pub advanced : Advanced all_conditions all_of ts start end xs
  pub begins : first_of (first_condition advanced.tree) ≡ first (drop start.at ts)

abbrev pub ReadsConditions : List Token → Cursor → Result (List Cond × Cursor) (Fail ℕ) → Type 0
ReadsConditions ts start (Ok p) = AllConditions ts start p.1 p.0
ReadsConditions ts start (Err e) = Halts all_conditions ts start e
