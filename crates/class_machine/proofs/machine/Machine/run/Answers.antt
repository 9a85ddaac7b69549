use Rattle.std.proofs.Common.{◌≡◌, ◌∙◌, ap, sym, subst, true}
use Rattle.class_file.specs.declared.class.Set.{Set as SetValue}
use Rattle.class_machine.specs.declared.machine.RunEnd.TheVariants as run_end
use Rattle.class_file.specs.Machine.{on_from, Going}
use Rattle.class_machine.specs.Core.{core_of, state_of}
use Rattle.class_machine.specs.Seen.{Seen, RunsTo}
use Rattle.class_machine.specs.declared.run.StepEnd.TheVariants as went
use Rattle.class_machine.proofs.Stepping.{cut_same, wrote_same}
use Rattle.class_machine.proofs.Ended.{safe_on, threw_to, told_not}
use Rattle.class_machine.proofs.machine.Machine.run.Goals as goal

pub invariant_of-self : goal.invariant_of-self
invariant_of-self g c =
    let was_live : c.self.inside.live ≡ true = ap (λ (m : Seen). m.live) c.self.view_is ∙ c.requires in
    (c.self.invariant.0, c.self.invariant.1, λ l. safe_on c.self.inside.set.now (core_of c.self.inside.run) (core_of c.run_on.new.run) c.args.steps _ _ (c.self.invariant.2 was_live) (rw c.in-Ok-On.field-0-is at c.in-Ok-On.ensures.ok))

pub returns-in-Ok-On-clause-ran : goal.returns-in-Ok-On-clause-ran
returns-in-Ok-On-clause-ran g c =
    let P : SetValue → Type 0 = λ x. RunsTo x (λ input earlier. on_from c.args.self.now.set c.args.steps (Going (state_of c.args.self.now.set c.args.self.now.core input earlier))) run_end.StepLimit (core_of c.run_on.new.run) (g.O.Sink.taken c.args.out.now) (g.O.Sink.taken c.run_on.new.out) in
    subst P (ap (λ (m : Seen). m.set) c.self.view_is)
    (wrote_same c.self.inside.set.now _ _ (λ input earlier. on_from c.args.self.now.set c.args.steps (Going (state_of c.args.self.now.set c.args.self.now.core input earlier))) _ went.On (core_of c.run_on.new.run)
    (λ input earlier. ap (λ (m : Seen). on_from m.set c.args.steps (Going (state_of m.set m.core input earlier))) (sym c.self.view_is))
    (rw c.in-Ok-On.field-0-is at c.in-Ok-On.ensures.ok))

pub returns-in-Ok-Ended-clause-ran : goal.returns-in-Ok-Ended-clause-ran
returns-in-Ok-Ended-clause-ran g c =
    wrote_same c.self.inside.set.now _ _ (λ input earlier. on_from c.args.self.now.set c.args.steps (Going (state_of c.args.self.now.set c.args.self.now.core input earlier))) _ went.Ended (core_of c.run_on.new.run)
    (λ input earlier. ap (λ (m : Seen). on_from m.set c.args.steps (Going (state_of m.set m.core input earlier))) (sym c.self.view_is))
    (rw c.in-Ok-Ended.field-0-is at c.in-Ok-Ended.ensures.ok)

pub returns-in-Err-Write-clause-ran : goal.returns-in-Err-Write-clause-ran
returns-in-Err-Write-clause-ran g c =
    cut_same _ _ (λ input earlier. on_from c.args.self.now.set c.args.steps (Going (state_of c.args.self.now.set c.args.self.now.core input earlier))) _
    (λ input earlier. ap (λ (m : Seen). on_from m.set c.args.steps (Going (state_of m.set m.core input earlier))) (sym c.self.view_is)) c.in-Err-Write.ensures.err

pub returns-in-Err-Memory-clause-ran : goal.returns-in-Err-Memory-clause-ran
returns-in-Err-Memory-clause-ran g c =
    cut_same _ _ (λ input earlier. on_from c.args.self.now.set c.args.steps (Going (state_of c.args.self.now.set c.args.self.now.core input earlier))) _
    (λ input earlier. ap (λ (m : Seen). on_from m.set c.args.steps (Going (state_of m.set m.core input earlier))) (sym c.self.view_is)) c.in-Err-Memory.ensures.err

pub returns-in-Ok-clause-ran : goal.returns-in-Ok-clause-ran
returns-in-Ok-clause-ran g c =
    let P : SetValue → Type 0 = λ x. RunsTo x (λ input earlier. on_from c.args.self.now.set c.args.steps (Going (state_of c.args.self.now.set c.args.self.now.core input earlier))) c.in-Ok.end (core_of c.run_on.new.run) (g.O.Sink.taken c.args.out.now) (g.O.Sink.taken c.run_on.new.out) in
    subst P (ap (λ (m : Seen). m.set) c.self.view_is)
    (threw_to c.self.inside.set.now (λ input earlier. on_from c.args.self.now.set c.args.steps (Going (state_of c.args.self.now.set c.args.self.now.core input earlier))) c.in-Ok.end c.in-Ok-Threw.exception (core_of c.run_on.new.run) _ _ c.in-Ok.ensures
    (wrote_same c.self.inside.set.now _ _ (λ input earlier. on_from c.args.self.now.set c.args.steps (Going (state_of c.args.self.now.set c.args.self.now.core input earlier))) _ (went.Threw c.in-Ok-Threw.exception) (core_of c.run_on.new.run)
    (λ input earlier. ap (λ (m : Seen). on_from m.set c.args.steps (Going (state_of m.set m.core input earlier))) (sym c.self.view_is))
    (rw c.in-Ok-Threw.field-0-is at c.in-Ok-Threw.ensures.ok)))

pub returns-in-Err-clause-ran : goal.returns-in-Err-clause-ran
returns-in-Err-clause-ran g c =
    told_not (λ input earlier. on_from c.args.self.now.set c.args.steps (Going (state_of c.args.self.now.set c.args.self.now.core input earlier))) c.in-Ok-Threw.exception _ _
    (wrote_same c.self.inside.set.now _ _ (λ input earlier. on_from c.args.self.now.set c.args.steps (Going (state_of c.args.self.now.set c.args.self.now.core input earlier))) _ (went.Threw c.in-Ok-Threw.exception) (core_of c.run_on.new.run)
    (λ input earlier. ap (λ (m : Seen). on_from m.set c.args.steps (Going (state_of m.set m.core input earlier))) (sym c.self.view_is))
    (rw c.in-Ok-Threw.field-0-is at c.in-Ok-Threw.ensures.ok))
