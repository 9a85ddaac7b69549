use Rattle.std.proofs.Common.{refl, ◌∙◌, List, ℕ}
use Rattle.class_file.specs.Pools.{is_text}
use Rattle.class_file.specs.Classes.{ClassView, built_ins}
use Rattle.verifier_types.specs.declared.built_ins.TheConstants.{NAMES}
use Rattle.verifier_types.proofs.BuiltIns.{same_position}
use Rattle.verifier_types.proofs.built_ins.built_in_number.Goals as goal

pub returns : goal.returns
unfolding built_ins
returns c =
    c.place_of.ensures ∙ same_position (λ (x : record { now : List ℕ }). is_text x.now c.args.name.now) (λ (x : ClassView). is_text x.name c.args.name.now) NAMES built_ins refl
