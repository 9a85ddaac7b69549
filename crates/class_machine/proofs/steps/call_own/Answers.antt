use Rattle.std.proofs.Common.{ap, sym, subst, ◌∙◌}
use Rattle.std.specs.Prelude.{slice_get}
use Rattle.class_machine.specs.declared.links.Target.{Target}
use Rattle.class_machine.specs.Core.{core_of, frames_of}
use Rattle.class_machine.specs.Lot.{CanStart}
use Rattle.class_machine.specs.Runs.{starting_class}
use Rattle.class_machine.proofs.Stepping.{own_file, own_is, own_runs, own_taken, own_entered}
use Rattle.class_machine.proofs.steps.call_own.Goals as goal

pub start_class-requires-clause-there : goal.start_class-requires-clause-there
start_class-requires-clause-there c =
    let own = c.requires.own in
    let f = own_file c.args.set.now (core_of c.args.run.now) own.top own.below own.is c.args.i c.args.next own.call c.requires.can in
    record { file = f.0; is = ap (λ (t : Target). slice_get c.args.set.now.classes t.class) own.target_is ∙ f.1 }

pub start_class-requires-clause-can : goal.start_class-requires-clause-can
start_class-requires-clause-can c = let own = c.requires.own in subst (CanStart c.args.set.now) (sym (ap (λ (t : Target). t.class) own.target_is)) own.call.starts

pub returns-then-branch : goal.returns-then-branch
returns-then-branch c = λ input out.
    let own = c.requires.own in
    let core = core_of c.args.run.now in
    let so = rw c.if-branch.true at c.in_ok-start_class.ensures.so in
    let go = own_runs c.args.set.now core own.top own.below own.is c.args.i c.args.next own.call c.requires.can in
    own_is c.args.set.now core own.top own.below own.is c.args.i c.args.next own.call c.requires.can input out
    ∙ ap (λ (t : Target). starting_class c.args.set.now core t.class go input out) (sym own.target_is)
    ∙ so go input out

pub enter-requires : goal.enter-requires
enter-requires c =
    let own = c.requires.own in
    let core = core_of c.args.run.now in
    let so = rw c.if-branch.false at c.in_ok-start_class.ensures.so in
    let stay = rw c.if-branch.false at c.in_ok-start_class.ensures.stay in
    own_taken c.args.set.now core own.top own.below own.is c.args.i c.args.next own.call c.requires.can (core_of c.start_class.new.run)
    (λ go input out. ap (λ (t : Target). starting_class c.args.set.now core t.class go input out) (sym own.target_is) ∙ so go input out)
    c.args.target.params c.start_class.new.run.frames.items (ap (λ (t : Target). t.params) own.target_is) (ap frames_of stay ∙ own.is)

pub returns : goal.returns
returns c = λ input out.
    let own = c.requires.own in
    let core = core_of c.args.run.now in
    let so = rw c.if-branch.false at c.in_ok-start_class.ensures.so in
    let stay = rw c.if-branch.false at c.in_ok-start_class.ensures.stay in
    own_entered c.args.set.now core own.top own.below own.is c.args.i c.args.next own.call c.requires.can (core_of c.start_class.new.run)
    (λ go input out. ap (λ (t : Target). starting_class c.args.set.now core t.class go input out) (sym own.target_is) ∙ so go input out)
    c.args.target own.target_is c.start_class.new.run.frames.items c.enter.new.frames.items c.in_ok-enter.ensures (ap frames_of stay ∙ own.is) input out
