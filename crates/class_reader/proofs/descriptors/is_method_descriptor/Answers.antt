use Rattle.std.proofs.Common.{◌∙◌}
use Rattle.class_reader.proofs.Spelled.{method_is}
use Rattle.class_reader.proofs.descriptors.is_method_descriptor.Goals as goal

pub returns : goal.returns
returns c = c.is_method.ensures ∙ method_is c.args.units.now
