use Rattle.std.proofs.Common.{◌++◌, ◌∷◌, [], ℕ, List, sym, ap, ◌∙◌}
use Rattle.class_file.specs.declared.class.Frame.{Frame}
use Rattle.class_file.specs.Fronts.{common_front, fronts_behind, last_locals}
use Rattle.class_file.proofs.Fronts.{one_more}
use Rattle.class_file.proofs.frames.Frames.push_behind.Goals as goal

pub invariant_of-self-in-Ok : goal.invariant_of-self-in-Ok
invariant_of-self-in-Ok c =
    let frames = c.self.inside.frames in
    c.in_ok-push.ensures.ok
    ∙ ap (λ (ns : List ℕ). ns ++ c.args.front ∷ []) c.self.invariant
    ∙ ap (λ (n : ℕ). fronts_behind [] frames ++ n ∷ []) (c.requires ∙ ap (λ (fs : List Frame). common_front (last_locals [] fs) c.args.frame.locals) (sym c.self.view_is))
    ∙ sym (one_more [] frames c.args.frame)
    ∙ ap (fronts_behind []) (sym c.in-Ok.ensures.ok)
