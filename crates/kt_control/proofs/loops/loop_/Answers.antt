use Rattle.kt_control.proofs.LoopRows.{loop_from}
use Rattle.kt_control.proofs.loops.loop_.Goals as goal

pub returns : goal.returns
returns g c = loop_from c.label-label.ensures c.turns.result c.turns.ensures
