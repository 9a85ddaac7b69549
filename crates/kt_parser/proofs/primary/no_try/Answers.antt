use Rattle.std.proofs.Common.{refl, None}
use Rattle.grammars.specs.Grammar.{row}
use Rattle.kt_parser.specs.Primaries as spec
use Rattle.kt_grammar.specs.Built as built
use Rattle.kt_grammar.specs.Rows as rows
use Rattle.kt_grammar.specs.Tokens.{is_jump}
use Rattle.kt_grammar.proofs.Steps.{standing}
use Rattle.kt_grammar.proofs.Advances.{chosen_first, chosen_second}
use Rattle.kt_parser.proofs.primary.no_try.Goals as goal

pub returns-in-Some : goal.returns-in-Some
returns-in-Some g c = chosen_first is_jump (row rows.jump) (row rows.lambda) built.jump_of spec.no_try_of (λ x. refl) c.args.bodies.now.tokens.now c.args.at c.requires.within (let o = c.in-Some.ensures in standing o.taken) c.jump.result c.jump.ensures

pub returns-in-None : goal.returns-in-None
returns-in-None g c = chosen_second is_jump (row rows.jump) (row rows.lambda) (built.lambda_of None) spec.no_try_of (λ x. refl) c.args.bodies.now.tokens.now c.args.at c.requires.within c.in-None.ensures c.lambda.result c.lambda.ensures
