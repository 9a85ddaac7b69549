use Rattle.class_writer.proofs.Fitting.{small_start}
use Rattle.class_writer.proofs.start.start_locals.Goals as goal

pub returns-clause-small : goal.returns-clause-small
returns-clause-small c = rw c.in_ok-locals.ensures (small_start c.args.this.now c.args.method.now)
