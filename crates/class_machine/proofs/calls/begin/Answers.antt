use Rattle.std.proofs.Common.{List, [], ◌∷◌, ap, ◌∙◌, sym}
use Rattle.std.specs.Prelude.{replicate, false}
use Rattle.class_file.specs.declared.value.Value.TheVariants.{Nothing}
use Rattle.class_file.specs.Machine.{Active, Going}
use Rattle.class_machine.specs.Core.{core_of, state_of, frames_of}
use Rattle.class_machine.proofs.Starting.{begins, main_runs, main_entered}
use Rattle.class_machine.proofs.calls.begin.Goals as goal

pub returns-then-branch : goal.returns-then-branch
returns-then-branch c = λ input out.
    let set = c.args.set.now in
    let main = c.requires.built.main in
    let so = rw c.if-branch.true at c.in_ok-start_class.ensures.so in
    begins set main c.args.links.now c.requires.linked c.in-Some.target c.in-Some.is (core_of c.args.run.now) (ap frames_of c.requires.first) input out
    ∙ so (main_runs set main c.args.links.now c.requires.linked c.in-Some.target c.in-Some.is) input out

pub returns : goal.returns
returns c = λ input out.
    let set = c.args.set.now in
    let main = c.requires.built.main in
    let so = rw c.if-branch.false at c.in_ok-start_class.ensures.so in
    let stay = rw c.if-branch.false at c.in_ok-start_class.ensures.stay in
    let s = state_of set (core_of c.start_class.new.run) input out in
    begins set main c.args.links.now c.requires.linked c.in-Some.target c.in-Some.is (core_of c.args.run.now) (ap frames_of c.requires.first) input out
    ∙ so (main_runs set main c.args.links.now c.requires.linked c.in-Some.target c.in-Some.is) input out
    ∙ main_entered set main c.args.links.now c.requires.linked c.in-Some.target c.in-Some.is s
    ∙ ap (λ (fs : List Active). Going (record s { frames = record { class = c.in-Some.target.class; method = c.in-Some.target.method; at = 0; locals = replicate c.in-Some.target.max_locals Nothing; stack = []; starts = false } ∷ fs })) (sym (ap frames_of (stay ∙ c.requires.first)))
    ∙ ap (λ (fs : List Active). Going (record s { frames = fs })) (sym c.in_ok-push_frame.ensures)
