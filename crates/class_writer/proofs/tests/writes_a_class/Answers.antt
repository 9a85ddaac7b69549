use Rattle.class_writer.proofs.Examples.{main_spelled}
use Rattle.class_writer.proofs.tests.writes_a_class.Goals as goal

pub write_class-requires : goal.write_class-requires
write_class-requires g c = rw c.in_ok-class.ensures main_spelled
