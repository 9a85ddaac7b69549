use Rattle.std.proofs.Common.{◌+◌, ◌*◌, max}
use Rattle.form_parser.specs.declared.surface.Statement.{size-Statement}
use Rattle.form_parser.specs.declared.surface.Body.{size-Body}
use Rattle.form_elaboration.proofs.Turns.{Turning}
use Rattle.form_elaboration.proofs.statements.File.+elaborate.Given as goal

abbrev pub decreases-statement : goal.decreases-statement
decreases-statement l = 4 * size-Statement l.statement.now

abbrev pub decreases-choice : goal.decreases-choice
decreases-choice l = 4 * size-Body l.held.now + 1

abbrev pub decreases-either : goal.decreases-either
decreases-either l = 4 * max (size-Body l.held.now) (size-Body l.failed.now) + 1

abbrev pub decreases-repetition : goal.decreases-repetition
decreases-repetition l = 4 * size-Body l.body.now + 1

abbrev pub decreases-body : goal.decreases-body
decreases-body l = 4 * size-Body l.body.now

abbrev pub decreases-statements : goal.decreases-statements
decreases-statements l = 4 * goal.size-statements l + 1

abbrev pub invariant-statements-loop-one : goal.invariant-statements-loop-one
invariant-statements-loop-one l = Turning l.self.number l.self.text.now l.statements l.one-index l.parts l.initial.scope l.scope
