use Rattle.std.proofs.Common.{◌≡◌, ℕ, Bool, false, List, [], ap, sym, subst, ◌∙◌}
use Rattle.std.specs.Prelude.{replicate}
use Rattle.class_file.specs.Natives.{Object}
use Rattle.class_machine.specs.declared.frame.Frame.{Frame}
use Rattle.class_machine.specs.Core.{core_of, first_core, frames_of, IsSafe}
use Rattle.class_machine.specs.Heaps.{objects_of}
use Rattle.class_machine.proofs.machine.Machine.start.Goals as goal

pub invariant_of-result : goal.invariant_of-result
invariant_of-result c =
    let set = c.args.set.now in
    let r = c.in_ok-run.run' in
    let e : core_of r ≡ first_core set =
    ap (λ (fs : List Frame). record { frames = frames_of fs; heap = objects_of r.heap.items; started = r.started.items }) c.in_ok-run.ensures.frames
    ∙ ap (λ (h : List Object). record { frames = []; heap = h; started = r.started.items }) c.in_ok-run.ensures.heap
    ∙ ap (λ (ms : List Bool). record { frames = []; heap = (first_core set).heap; started = ms }) (c.in_ok-run.ensures.started ∙ ap (λ (n : ℕ). replicate n false) c.len.ensures) in
    (c.in_ok-links.ensures, c.requires.built, λ l. subst (IsSafe set) (sym e) (record { earlier = []; never = c.requires.never }))
