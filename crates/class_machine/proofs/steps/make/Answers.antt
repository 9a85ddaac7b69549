use Rattle.std.proofs.Common.{◌∙◌, ap, refl, subst, arith, length, ℕ, ◌≡◌}
use Rattle.std.proofs.lemmas.List.{map-append, length-map}
use Rattle.class_file.specs.declared.value.Value.TheVariants.{Ref}
use Rattle.class_machine.specs.Core.{core_of}
use Rattle.class_machine.specs.Heaps.{object_of, objects_of}
use Rattle.class_machine.specs.Stacks.{TopPushed}
use Rattle.class_machine.proofs.Stepping.{text_made}
use Rattle.class_machine.proofs.steps.make.Goals as goal

pub returns : goal.returns
returns c =
    let heap = c.args.run.now.heap.items in
    let place : c.len-place.result ≡ length (objects_of heap) = let n = length-map heap object_of in omega (arith, n, c.len-place.ensures) in
    text_made (core_of c.args.run.now) _ c.args.run.now.frames.items c.push_top.new.frames.items _ c.args.next refl refl
    (ap objects_of c.in_ok-push.ensures.items ∙ map-append object_of heap _) refl
    (subst (λ (n : ℕ). TopPushed (Ref n) c.args.next c.args.run.now.frames.items c.push_top.new.frames.items) place c.in_ok-push_top.ensures)
