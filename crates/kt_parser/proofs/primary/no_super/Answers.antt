use Rattle.std.proofs.Common.{refl}
use Rattle.grammars.specs.Grammar.{one, row}
use Rattle.kt_parser.specs.Primaries as spec
use Rattle.kt_lexer.specs.declared.token.Keyword.TheVariants as keyword
use Rattle.kt_lexer.specs.declared.token.Operator.TheVariants as operator
use Rattle.kt_grammar.specs.Built as built
use Rattle.kt_grammar.specs.Rows as rows
use Rattle.kt_grammar.specs.Rows.{in_brackets}
use Rattle.kt_grammar.specs.Tokens.{is_op, is_word, is_name, is_string_open}
use Rattle.kt_grammar.proofs.Steps.{standing}
use Rattle.kt_grammar.proofs.Advances.{chosen_first, chosen_second}
use Rattle.kt_parser.proofs.primary.no_super.Goals as goal

pub returns-in-Some : goal.returns-in-Some
returns-in-Some g c = chosen_first (is_word keyword.If) (row rows.conditional) spec.no_if built.conditional_of spec.no_super_of (λ x. refl) c.args.bodies.now.tokens.now c.args.at c.requires.within (let o = c.in-Some.ensures in standing o.taken) c.conditional.result c.conditional.ensures

pub returns-in-None : goal.returns-in-None
returns-in-None g c = chosen_second (is_word keyword.If) (row rows.conditional) spec.no_if spec.no_if_of spec.no_super_of (λ x. refl) c.args.bodies.now.tokens.now c.args.at c.requires.within c.in-None.ensures c.no_if.result c.no_if.ensures
