use Rattle.std.proofs.Common.{◌≡◌, ◌-◌, [], List, Some, length, subst, ◌∙◌}
use Rattle.std.specs.List.{slice_get}
use Rattle.class_file.specs.declared.class.Frame.{Frame}
use Rattle.class_file.proofs.Fronts.{last_is}
use Rattle.class_file.proofs.frames.Frames.front_with.Goals as goal

pub returns-in-Some : goal.returns-in-Some
returns-in-Some c =
    let last = c.in-Some.last.now in
    let there = subst (λ (fs : List Frame). Some last ≡ slice_get fs (length fs - 1)) (c.as_slice.ensures ∙ c.self.view_is) c.in-Some.ensures.value in
    rw (last_is [] c.args.self.now last there) c.common_front.ensures
