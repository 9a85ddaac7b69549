use Rattle.std.proofs.Common.{refl, false}
use Rattle.class_file.specs.Classes.{ClassView, built_ins}
use Rattle.class_file.specs.Members.{is_interface_view}
use Rattle.verifier_types.specs.declared.built_ins.TheConstants.{INTERFACES}
use Rattle.verifier_types.proofs.BuiltIns.{table_at}
use Rattle.verifier_types.proofs.built_ins.is_built_in_interface.Goals as goal

pub returns : goal.returns
unfolding built_ins
returns c = table_at c.args._set.now (λ (x : ClassView). x.is_interface) is_interface_view INTERFACES c.args.number false (λ x. refl) refl refl c.requires
