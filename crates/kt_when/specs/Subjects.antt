-- Parts of `when`, and what is built of them.
use Rattle.std.specs.Prelude.{List, [], Some, None}
use Rattle.grammars.specs.Grammar.{Part, row, both, Cst, leaf, node, pair, left}
use Rattle.kc_tree.specs.declared.fault.Span.{Span}
use Rattle.kc_tree.specs.declared.types.Word.{Word}
use Rattle.kc_tree.specs.declared.expr.Branch.{Branch}
use Rattle.kc_tree.specs.declared.expr.Expr.{Expr}
use Rattle.kc_tree.specs.declared.expr.ExprKind.TheVariants as e
use Rattle.kc_tree.specs.declared.expr.LocalName.{LocalName}
use Rattle.kt_lexer.specs.declared.token.Token.{Token}
use Rattle.kt_lexer.specs.declared.token.Keyword.TheVariants as keyword
use Rattle.kt_lexer.specs.declared.token.Operator.TheVariants as operator
use Rattle.kt_grammar.specs.Built as built
use Rattle.kt_grammar.specs.Rows as rows
use Rattle.kt_grammar.specs.Rows.{Row, op, word, maybe}
use Rattle.kt_grammar.specs.Tokens.{is_op, is_word}
use Rattle.kt_grammar.specs.TypesBuilt.{no_span, word_of}
use Rattle.kt_when.specs.declared.subjects.Subject.{Subject}

-- ---- the variable

-- what no derivation has
abbrev pub no_name : LocalName
no_name = let w : Word = record { span = no_span; name = 0 } in record { name = w; ty = None }

abbrev pub typed_name : Cst Token → LocalName
typed_name (node (pair (leaf t) x)) = record { name = word_of t; ty = built.written_type x }
typed_name _ = no_name

abbrev pub variable : Part Row Token
variable = both (row rows.typed_name) (op operator.Assign)

abbrev pub variable_of : Cst Token → LocalName
variable_of (pair x assign) = typed_name x
variable_of _ = no_name

abbrev pub bound : Part Row Token
bound = maybe (is_word keyword.Val) (both (word keyword.Val) variable)

-- ---- the subject

abbrev pub in_brackets : Part Row Token
in_brackets = both bound (row rows.expression)

abbrev pub no_subject : Subject
no_subject = record { bound = None; value = None }

abbrev pub in_brackets_of : Cst Token → Subject
in_brackets_of (pair b x) = record { bound = built.bound_of b; value = Some (built.expression_of x) }
in_brackets_of _ = no_subject

abbrev pub subject : Part Row Token
subject = maybe (is_op operator.OpenRound) (rows.in_brackets in_brackets)

abbrev pub subject_of : Cst Token → Subject
subject_of (left (pair p (pair x q))) = in_brackets_of x
subject_of _ = no_subject

-- ---- the branches

abbrev pub in_braces : Part Row Token
in_braces = both (op operator.OpenBrace) (both (row rows.branches) (op operator.CloseBrace))

abbrev pub in_braces_of : Cst Token → List Branch
in_braces_of (pair o (pair x c)) = built.branches_of x
in_braces_of _ = []

-- ---- the whole

abbrev pub when_at : Span → Subject → List Branch → Expr
when_at s j xs = record { span = s; kind = e.When j.bound j.value xs }
