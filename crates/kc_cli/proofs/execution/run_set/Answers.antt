use Rattle.std.proofs.Common.{refl, ap, ◌∙◌, subst, sym}
use Rattle.class_machine.specs.Core.{first_core}
use Rattle.class_file.specs.Lots.{IsFirstLot}
use Rattle.class_file.specs.Machine as machine
use Rattle.kc_cli.proofs.Executing.{nothing_ran, finished, limited, broken_off}
use Rattle.kc_cli.proofs.execution.run_set.Goals as goal

pub returns-in-Err-clause-ran : goal.returns-in-Err-clause-ran
returns-in-Err-clause-ran g c = nothing_ran c.args.set.now c.args.steps (g.O.Sink.taken c.args.out.now)

pub returns-in-Ended-clause-ran : goal.returns-in-Ended-clause-ran
returns-in-Ended-clause-ran g c =
    finished c.args.set.now c.args.steps c.in-Ok-start_verified.machine.set c.in-Ok-start_verified.machine.core
    (c.in-Ok-start_verified.ensures.0 ∙ c.in-Ok.ensures.ok) (c.in-Ok-start_verified.ensures.1 ∙ ap first_core c.in-Ok.ensures.ok) (g.O.Sink.taken c.args.out.now) (g.O.Sink.taken c.run.new.out) machine.Ended c.in-Ended.ensures.ran

pub returns-in-Threw-clause-ran : goal.returns-in-Threw-clause-ran
returns-in-Threw-clause-ran g c =
    finished c.args.set.now c.args.steps c.in-Ok-start_verified.machine.set c.in-Ok-start_verified.machine.core
    (c.in-Ok-start_verified.ensures.0 ∙ c.in-Ok.ensures.ok) (c.in-Ok-start_verified.ensures.1 ∙ ap first_core c.in-Ok.ensures.ok) (g.O.Sink.taken c.args.out.now) (g.O.Sink.taken c.run.new.out) (machine.Threw c.in-Threw.class c.in-Threw.message) c.in-Threw.ensures.ran

pub returns-in-StepLimit-clause-ran : goal.returns-in-StepLimit-clause-ran
returns-in-StepLimit-clause-ran g c = (
  refl,
  limited c.args.set.now c.args.steps c.in-Ok-start_verified.machine.set c.in-Ok-start_verified.machine.core
      (c.in-Ok-start_verified.ensures.0 ∙ c.in-Ok.ensures.ok) (c.in-Ok-start_verified.ensures.1 ∙ ap first_core c.in-Ok.ensures.ok) (g.O.Sink.taken c.args.out.now) (g.O.Sink.taken c.run.new.out) c.run.new.self.core c.in-StepLimit.ensures.ran,
)

pub returns-in-WriteFault-clause-ran : goal.returns-in-WriteFault-clause-ran
returns-in-WriteFault-clause-ran g c = (
  c.in-WriteFault.ensures.cause,
  broken_off c.args.set.now c.args.steps c.in-Ok-start_verified.machine.set c.in-Ok-start_verified.machine.core
      (c.in-Ok-start_verified.ensures.0 ∙ c.in-Ok.ensures.ok) (c.in-Ok-start_verified.ensures.1 ∙ ap first_core c.in-Ok.ensures.ok) (g.O.Sink.taken c.args.out.now) (g.O.Sink.taken c.run.new.out) c.in-WriteFault.ensures.ran,
)

pub returns-clause-ran : goal.returns-clause-ran
returns-clause-ran g c =
    broken_off c.args.set.now c.args.steps c.in-Ok-start_verified.machine.set c.in-Ok-start_verified.machine.core
    (c.in-Ok-start_verified.ensures.0 ∙ c.in-Ok.ensures.ok) (c.in-Ok-start_verified.ensures.1 ∙ ap first_core c.in-Ok.ensures.ok) (g.O.Sink.taken c.args.out.now) (g.O.Sink.taken c.run.new.out) c.in-Memory.ensures.ran

pub start_verified-requires-clause-built : goal.start_verified-requires-clause-built
start_verified-requires-clause-built g c = c.first_lot_is_built.ensures c.in-Ok.verified (subst IsFirstLot (sym c.in-Ok.ensures.ok) c.requires.lot)
