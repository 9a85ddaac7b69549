use Rattle.std.proofs.Common.{refl, sym, ◌∙◌}
use Rattle.grammars.specs.Grammar.{next, row, choose, guard, node}
use Rattle.kt_parser.specs.Statements as spec
use Rattle.kt_grammar.specs.Built as built
use Rattle.kt_grammar.specs.Rows as rows
use Rattle.kt_grammar.specs.Tokens.{is_local, is_loop, is_prefix}
use Rattle.kt_grammar.proofs.Steps.{standing}
use Rattle.kt_grammar.proofs.Advances.{chosen_first, chosen_second}
use Rattle.kt_parser.proofs.StatementRows.{signed_from}
use Rattle.kt_parser.proofs.statements.no_loop.Goals as goal

pub returns-in-Some : goal.returns-in-Some
returns-in-Some g c = let o = c.in-Some.ensures in let h = standing o.taken in
    chosen_first is_prefix (guard (next is_prefix) (row rows.expression)) spec.no_prefix spec.signed_of spec.no_loop_of (λ x. refl) c.args.bodies.now.tokens.now c.args.at c.requires.within h c.expression_over.result
    (signed_from c.args.bodies.now.tokens.now c.args.at c.requires.within h c.expression_over.result c.expression_over.ensures)

pub returns-in-None : goal.returns-in-None
returns-in-None g c = chosen_second is_prefix (guard (next is_prefix) (row rows.expression)) spec.no_prefix spec.no_prefix_of spec.no_loop_of (λ x. refl) c.args.bodies.now.tokens.now c.args.at c.requires.within c.in-None.ensures c.no_prefix.result c.no_prefix.ensures
