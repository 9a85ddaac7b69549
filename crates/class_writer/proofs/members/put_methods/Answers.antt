use Rattle.class_file.specs.ClassBytes.{MethodIs}
use Rattle.class_writer.specs.Indexes.{slots_of}
use Rattle.class_writer.proofs.Grammar.{spelled_at}
use Rattle.class_writer.proofs.members.put_methods.Goals as goal

pub put_method-requires-clause-spelled : goal.put_method-requires-clause-spelled
put_method-requires-clause-spelled c =
    rw c.method-item.is (spelled_at (MethodIs (slots_of c.args.names.now) c.args.this.now) c.args.methods.now c.requires.spelled.1.1 c.loop-method.method-index _ c.requires.spelled.1.4 c.loop-method-test.true)
