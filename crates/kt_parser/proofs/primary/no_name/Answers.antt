use Rattle.std.proofs.Common.{refl, sym, ◌∙◌}
use Rattle.grammars.specs.Grammar.{one, row}
use Rattle.kt_parser.specs.Primaries as spec
use Rattle.kt_lexer.specs.declared.token.Keyword.TheVariants as keyword
use Rattle.kt_lexer.specs.declared.token.Operator.TheVariants as operator
use Rattle.kt_grammar.specs.Built as built
use Rattle.kt_grammar.specs.Rows as rows
use Rattle.kt_grammar.specs.Rows.{in_brackets}
use Rattle.kt_grammar.specs.Tokens.{is_op, is_word, is_name, is_string_open}
use Rattle.kt_grammar.proofs.Advances.{chosen_first, chosen_second}
use Rattle.kt_parser.proofs.primary.no_name.Goals as goal

pub returns-then-is_at : goal.returns-then-is_at
returns-then-is_at g c = chosen_first is_string_open (row rows.string) spec.no_string built.string_of spec.no_name_of (λ x. refl) c.args.bodies.now.tokens.now c.args.at c.requires.within (sym c.is_at.ensures ∙ c.if-is_at.true) c.string.result c.string.ensures

pub returns : goal.returns
returns g c = chosen_second is_string_open (row rows.string) spec.no_string spec.no_string_of spec.no_name_of (λ x. refl) c.args.bodies.now.tokens.now c.args.at c.requires.within (sym c.is_at.ensures ∙ c.if-is_at.false) c.no_string.result c.no_string.ensures
