use Rattle.class_writer.proofs.Examples.{added_new}
use Rattle.class_writer.proofs.tests.add.Goals as goal

pub returns : goal.returns
returns c = added_new c.args.pool.now c.index.new.self c.args.entry c.requires c.in_ok-index.ensures.ok
