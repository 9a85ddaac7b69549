use Rattle.std.proofs.Common.{◌∙◌}
use Rattle.class_reader.proofs.Spelled.{in_array}
use Rattle.class_reader.proofs.descriptors.profile_behind.Goals as goal

pub returns-then-unit-eq91 : goal.returns-then-unit-eq91
returns-then-unit-eq91 c = c.elements_behind.ensures ∙ in_array c.args.units.now c.in-len1-up.len_at_least c.if-unit-eq91.true
