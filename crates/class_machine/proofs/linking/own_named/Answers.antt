use Rattle.std.proofs.Common.{◌≡◌, ℕ, List, Some, ap, ◌∙◌}
use Rattle.std.proofs.lemmas.Result.{IfOk-weaker}
use Rattle.class_file.specs.Pools.{Member}
use Rattle.class_file.specs.Classes.{class_named}
use Rattle.class_machine.specs.Links.{own_in_class, own_named}
use Rattle.class_machine.proofs.linking.own_named.Goals as goal

pub returns-in-Some : goal.returns-in-Some
returns-in-Some c =
    let classes = c.args.set.now.classes in
    let member : Member = record { owner = c.args.owner.now; name = c.args.name.now; descriptor = c.args.descriptor.now } in
    let found : Some c.in-Some.class ≡ class_named c.args.owner.now classes = c.in-Some.ensures.exact ∙ ap (λ (n : List ℕ). class_named n classes) c.units.ensures in
    IfOk-weaker c.own_in_class.result
    (λ target. (owner : List ℕ) → target ≡ own_in_class classes (record { owner = owner; name = c.args.name.now; descriptor = c.args.descriptor.now }) (Some c.in-Some.class))
    (λ target. target ≡ own_named classes member)
    (λ target h. h c.args.owner.now ∙ ap (own_in_class classes member) found) c.own_in_class.ensures
