use Rattle.std.proofs.Common.{refl, sym, ◌∙◌}
use Rattle.grammars.specs.Grammar.{row, nothing}
use Rattle.kt_lexer.specs.declared.token.Operator.TheVariants as operator
use Rattle.kt_grammar.proofs.Advances.{chosen_first}
use Rattle.kt_grammar.specs.Tokens.{is_op}
use Rattle.kt_classes.specs.Bodies.{body_row, body_in, body_parts}
use Rattle.kt_classes.proofs.BodyRows.{no_body}
use Rattle.kt_classes.proofs.bodies.written_body.Goals as goal

pub returns-then-not-is_op_at : goal.returns-then-not-is_op_at
returns-then-not-is_op_at c = no_body (body_row c.args.form) c.new.ensures c.plain_parts.ensures c.requires.within (sym c.is_op_at.ensures ∙ c.if-not-is_op_at.true)

pub returns : goal.returns
returns c = chosen_first (is_op operator.OpenBrace) (row (body_row c.args.form)) nothing body_in body_parts (λ x. refl) c.args.tokens.now c.args.at c.requires.within (sym c.is_op_at.ensures ∙ c.if-not-is_op_at.false) c.in_braces.result c.in_braces.ensures
