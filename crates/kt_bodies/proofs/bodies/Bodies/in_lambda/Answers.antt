use Rattle.std.proofs.Common.{sym, ◌∙◌}
use Rattle.kt_bodies.proofs.LambdaRows.{inside_arrow, inside_plain}
use Rattle.kt_bodies.proofs.bodies.Bodies.in_lambda.Goals as goal

pub returns-then-is_op_at : goal.returns-then-is_op_at
returns-then-is_op_at g c = inside_arrow c.args.self.now.tokens.now c.args.at c.new.result c.requires.within (sym c.is_op_at.ensures ∙ c.if-is_op_at.true) c.new.ensures c.behind_parameters.result c.behind_parameters.ensures

pub returns : goal.returns
returns g c = inside_plain c.args.self.now.tokens.now c.args.at c.requires.within (sym c.is_op_at.ensures ∙ c.if-is_op_at.false) c.in_plain.result c.in_plain.ensures
