use Rattle.std.proofs.Common.{refl, sym, ◌∙◌}
use Rattle.grammars.specs.Grammar.{next, row, choose, guard, node}
use Rattle.kt_parser.specs.Statements as spec
use Rattle.kt_grammar.specs.Built as built
use Rattle.kt_grammar.specs.Rows as rows
use Rattle.kt_grammar.specs.Tokens.{is_local, is_loop, is_prefix}
use Rattle.kt_grammar.proofs.Advances.{chosen_first, chosen_second}
use Rattle.kt_parser.proofs.statements.no_local.Goals as goal

pub returns-then-begins_loop : goal.returns-then-begins_loop
returns-then-begins_loop g c = chosen_first is_loop (row rows.loop) spec.no_loop built.loop_of spec.no_local_of (λ x. refl) c.args.bodies.now.tokens.now c.args.at c.requires.within (sym c.begins_loop.ensures ∙ c.if-begins_loop.true) c.loop_.result c.loop_.ensures

pub returns : goal.returns
returns g c = chosen_second is_loop (row rows.loop) spec.no_loop spec.no_loop_of spec.no_local_of (λ x. refl) c.args.bodies.now.tokens.now c.args.at c.requires.within (sym c.begins_loop.ensures ∙ c.if-begins_loop.false) c.no_loop.result c.no_loop.ensures
