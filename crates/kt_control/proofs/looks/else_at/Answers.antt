use Rattle.std.proofs.Common.{ap, not}
use Rattle.kt_control.proofs.ConditionalRows.{no_else_at, one_else_at}
use Rattle.kt_control.proofs.looks.else_at.Goals as goal

pub returns-in_default : goal.returns-in_default
returns-in_default c = no_else_at c.args.tokens.now c.args.at c.requires c.in_default.ensures

pub returns : goal.returns
returns c = one_else_at c.in-Some.ensures (ap not c.is_op_at.ensures)
