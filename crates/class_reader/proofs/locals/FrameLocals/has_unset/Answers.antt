use Rattle.std.proofs.Common.{ap, ◌∙◌}
use Rattle.std.specs.List.{list_any}
use Rattle.class_file.specs.ClassBytes.{is_unset}
use Rattle.class_reader.proofs.Unset.{any_unset}
use Rattle.class_reader.proofs.locals.FrameLocals.has_unset.Goals as goal

pub returns : goal.returns
returns c = rw (c.self.invariant, c.len.ensures) (any_unset c.self.inside.types ∙ ap (list_any is_unset) c.self.view_is)
