use Rattle.std.proofs.Common.{◌∙◌, ap}
use Rattle.class_file.specs.declared.class.Set.{Set}
use Rattle.class_machine.specs.Links.{all_parts, main_target}
use Rattle.class_machine.proofs.Linked.{is_linked}
use Rattle.class_machine.proofs.linking.link.Goals as goal

pub returns : goal.returns
returns c =
    let named = c.in_ok-named.ensures in
    is_linked c.args.set.now (record { classes = c.in_ok-classes.classes; main = c.main_target-main.result })
    (c.in_ok-classes.ensures ∙ ap (λ (s : Set). all_parts s.classes 0 s.classes) named) (c.main_target-main.ensures ∙ ap main_target named)
