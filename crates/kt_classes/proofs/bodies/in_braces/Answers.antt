use Rattle.std.proofs.Common.{sym, subst}
use Rattle.grammars.specs.Grammar.{row}
use Rattle.kt_grammar.specs.Parsed.{Advances}
use Rattle.kt_classes.specs.Bodies.{body_row, body_in}
use Rattle.kt_classes.proofs.bodies.in_braces.Goals as goal

pub returns-in-Class : goal.returns-in-Class
returns-in-Class c = subst (λ f. Advances (row (body_row f)) body_in c.args.tokens.now c.args.at c.plain_body.result) (sym c.in-Class.is) c.plain_body.ensures

pub returns-in-Enum : goal.returns-in-Enum
returns-in-Enum c = subst (λ f. Advances (row (body_row f)) body_in c.args.tokens.now c.args.at c.enum_body.result) (sym c.in-Enum.is) c.enum_body.ensures

pub returns-in-Interface : goal.returns-in-Interface
returns-in-Interface c = subst (λ f. Advances (row (body_row f)) body_in c.args.tokens.now c.args.at c.plain_body-in-Interface.result) (sym c.in-Interface.is) c.plain_body-in-Interface.ensures
