use Rattle.std.proofs.Common.{refl, sym, ◌∙◌}
use Rattle.grammars.specs.Grammar.{one, row}
use Rattle.kt_parser.specs.Primaries as spec
use Rattle.kt_lexer.specs.declared.token.Keyword.TheVariants as keyword
use Rattle.kt_lexer.specs.declared.token.Operator.TheVariants as operator
use Rattle.kt_grammar.specs.Built as built
use Rattle.kt_grammar.specs.Rows as rows
use Rattle.kt_grammar.specs.Rows.{in_brackets}
use Rattle.kt_grammar.specs.Tokens.{is_op, is_word, is_name, is_string_open}
use Rattle.kt_grammar.proofs.Advances.{chosen_first, chosen_second}
use Rattle.kt_parser.proofs.primary.no_string.Goals as goal

pub returns-then-is_op_at : goal.returns-then-is_op_at
returns-then-is_op_at g c = chosen_first (is_op operator.OpenRound) (in_brackets (row rows.expression)) spec.no_bracket spec.bracketed_of spec.no_string_of (λ x. refl) c.args.bodies.now.tokens.now c.args.at c.requires.within (sym c.is_op_at.ensures ∙ c.if-is_op_at.true) c.bracket.result c.bracket.ensures

pub returns : goal.returns
returns g c = chosen_second (is_op operator.OpenRound) (in_brackets (row rows.expression)) spec.no_bracket spec.no_bracket_of spec.no_string_of (λ x. refl) c.args.bodies.now.tokens.now c.args.at c.requires.within (sym c.is_op_at.ensures ∙ c.if-is_op_at.false) c.no_bracket.result c.no_bracket.ensures
