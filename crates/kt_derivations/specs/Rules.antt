-- The rules of the grammar: the tests by which it decides what its rows leave open. Each is obeyed where the part behind it is taken just
-- where the test holds.
use Rattle.std.specs.Prelude.{List, [], ◌∷◌, ◌++◌, ◌||◌}
use Rattle.grammars.specs.Grammar.{Test, next}
use Rattle.kt_lexer.specs.declared.token.Token.{Token}
use Rattle.kt_lexer.specs.declared.token.Operator.TheVariants as operator
use Rattle.kt_grammar.specs.Lookahead.{suffix_follows, argument_name, parameters, arguments_form, result_follows, out_type, catch_clause, finally_clause, else_follows, modifier_follows}
use Rattle.kt_grammar.specs.Tokens.{is_op, is_name, unmarked, is_equality, is_comparison, is_in, is_is, is_as, is_range, is_sum, is_product, is_assignment, begins_expression, begins_trailing}

-- The tests that look farther than the next token: what follows an operand, type arguments behind the type of a cast or check, the
-- result of a function type before an arrow, an argument's name, a lambda's parameters, `out` before a type, clauses of `try`, `else`,
-- and the modifiers of a parameter.
abbrev pub far_tests : List (Test Token)
far_tests =
    suffix_follows ∷ arguments_form ∷ result_follows ∷ argument_name ∷ parameters ∷ out_type ∷ catch_clause ∷ finally_clause ∷ else_follows
    ∷ modifier_follows ∷ []

-- The tests of the next token that decide between what may stand within and what may stand behind it: the operators from `||` to `as`
-- and infix names, each taken by the innermost operand that can take it; assignments, and the value of a local variable; the value of
-- `return`; a lambda behind a call; `<`, `.`, `->` and `?` behind what is a type already.
abbrev pub near_tests : List (Test Token)
near_tests =
    next (is_op operator.Or) ∷ next (is_op operator.And) ∷ next (unmarked is_equality) ∷ next (unmarked is_comparison)
    ∷ next (unmarked (λ t. is_in t || is_is t)) ∷ next (is_op operator.Elvis) ∷ next (unmarked is_name) ∷ next (unmarked is_range)
    ∷ next (unmarked is_sum) ∷ next (unmarked is_product) ∷ next (unmarked is_as)
    ∷ next (unmarked is_assignment) ∷ next (is_op operator.Assign) ∷ next (unmarked begins_expression) ∷ next (unmarked begins_trailing)
    ∷ next (is_op operator.Less) ∷ next (is_op operator.Dot) ∷ next (is_op operator.Arrow) ∷ next (is_op operator.Question) ∷ []

abbrev pub rules : List (Test Token)
rules = far_tests ++ near_tests
