use Rattle.std.proofs.Common.{refl, None}
use Rattle.class_file.specs.Classes.{ClassView, built_ins, number_in, superclass_in}
use Rattle.verifier_types.specs.declared.built_ins.TheConstants.{SUPERS}
use Rattle.verifier_types.proofs.BuiltIns.{table_at}
use Rattle.verifier_types.proofs.built_ins.built_in_superclass.Goals as goal

pub returns : goal.returns
unfolding built_ins
returns c =
    let set = c.args._set.now in
    table_at set (λ (x : ClassView). number_in set x.super) (superclass_in set) SUPERS c.args.number None (λ x. refl) refl refl c.requires
