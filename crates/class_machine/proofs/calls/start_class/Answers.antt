use Rattle.std.proofs.Common.{◌≡◌, ◌∙◌, List, Bool, false, refl, ap, sym}
use Rattle.std.specs.Prelude.{slice_get}
use Rattle.class_file.specs.Machine.{is_marked}
use Rattle.class_machine.specs.Core.{core_of}
use Rattle.class_machine.proofs.Starting.{starts_with, starts_without}
use Rattle.class_machine.proofs.calls.start_class.Goals as goal

pub returns-in_ok-push_frame-in-Some-clause-so : goal.returns-in_ok-push_frame-in-Some-clause-so
returns-in_ok-push_frame-in-Some-clause-so c =
    let fresh : is_marked (slice_get c.args.run.now.started.items c.args.class) ≡ false = ap (λ (xs : List Bool). is_marked (slice_get xs c.args.class)) (sym c.deref.ensures.value) ∙ sym c.is_marked.ensures ∙ c.if-is_marked.false in
    starts_with c.args.set.now (core_of c.args.run.now) c.args.class c.requires.there.file c.requires.there.is c.requires.can fresh c.in-Some.target _
    (sym (c.requires.linked.initialisers c.args.class c.requires.there.file c.requires.there.is) ∙ sym c.initialiser_at.ensures ∙ c.in-Some.is)
    c.in_ok-push_frame-in-Some.ensures refl c.mark.ensures

pub returns-in-None-clause-so : goal.returns-in-None-clause-so
returns-in-None-clause-so c =
    let fresh : is_marked (slice_get c.args.run.now.started.items c.args.class) ≡ false = ap (λ (xs : List Bool). is_marked (slice_get xs c.args.class)) (sym c.deref.ensures.value) ∙ sym c.is_marked.ensures ∙ c.if-is_marked.false in
    starts_without c.args.set.now (core_of c.args.run.now) c.args.class c.requires.there.file c.requires.there.is c.requires.can fresh _
    (sym (c.requires.linked.initialisers c.args.class c.requires.there.file c.requires.there.is) ∙ sym c.initialiser_at.ensures ∙ c.in-None.is)
    refl refl c.mark.ensures
