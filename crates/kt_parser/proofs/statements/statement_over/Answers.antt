use Rattle.std.proofs.Common.{refl, sym, ◌∙◌}
use Rattle.grammars.specs.Grammar.{next, row, choose, guard, node}
use Rattle.kt_parser.specs.Statements as spec
use Rattle.kt_grammar.specs.Built as built
use Rattle.kt_grammar.specs.Rows as rows
use Rattle.kt_grammar.specs.Tokens.{is_local, is_loop, is_prefix}
use Rattle.kt_grammar.proofs.Advances.{chosen_first, chosen_second, of_row}
use Rattle.kt_parser.proofs.statements.statement_over.Goals as goal

pub returns-then-begins_local : goal.returns-then-begins_local
returns-then-begins_local g c = of_row rows.statement (choose (next is_local) (row rows.local) spec.no_local) refl (λ x. built.statement_of (node x)) built.statement_of (λ x. refl) c.args.bodies.now.tokens.now c.args.at c.local.result
    (chosen_first is_local (row rows.local) spec.no_local built.local_of (λ x. built.statement_of (node x)) (λ x. refl) c.args.bodies.now.tokens.now c.args.at c.requires.within (sym c.begins_local.ensures ∙ c.if-begins_local.true) c.local.result c.local.ensures)

pub returns : goal.returns
returns g c = of_row rows.statement (choose (next is_local) (row rows.local) spec.no_local) refl (λ x. built.statement_of (node x)) built.statement_of (λ x. refl) c.args.bodies.now.tokens.now c.args.at c.no_local.result
    (chosen_second is_local (row rows.local) spec.no_local spec.no_local_of (λ x. built.statement_of (node x)) (λ x. refl) c.args.bodies.now.tokens.now c.args.at c.requires.within (sym c.begins_local.ensures ∙ c.if-begins_local.false) c.no_local.result c.no_local.ensures)
