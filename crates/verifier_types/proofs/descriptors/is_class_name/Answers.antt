use Rattle.std.proofs.Common.{sym, ◌∙◌}
use Rattle.verifier_types.proofs.Spelling.{name_goes, name_over}
use Rattle.verifier_types.proofs.descriptors.is_class_name.Goals as goal

pub loop-unit-preserved : goal.loop-unit-preserved
loop-unit-preserved c =
    sym (name_goes c.loop-unit.begun c.in-Some.next c.args.units.now c.loop-unit.unit-index c.loop-unit-test.true c.in-Some.ensures) ∙ c.loop-unit.invariant

pub returns : goal.returns
returns c = sym (name_over c.loop-unit.begun c.args.units.now c.loop-unit.unit-index c.loop-unit-test.false) ∙ c.loop-unit.invariant
