use Rattle.std.proofs.Common.{refl, sym, subst}
use Rattle.class_soundness.specs.Soundness.{IsLoaded}
use Rattle.verifier.specs.Answers.{IsCounted}
use Rattle.class_machine.specs.Lot.{IsBuilt}
use Rattle.class_machine.proofs.machine.Machine.load.Goals as goal

pub start_verified-requires-clause-built : goal.start_verified-requires-clause-built
start_verified-requires-clause-built c = subst IsBuilt (sym c.in_ok-verified.ensures.ok) (c.in_ok-is_built.ensures c.if-not-branch-2.false)

pub start_verified-requires-clause-loaded : goal.start_verified-requires-clause-loaded
start_verified-requires-clause-loaded c = subst IsLoaded (sym c.in_ok-verified.ensures.ok) (c.in_ok-is_loaded.ensures c.if-not-branch.false)

pub start_verified-requires-clause-codes : goal.start_verified-requires-clause-codes
start_verified-requires-clause-codes c = subst IsCounted (sym c.in_ok-verified.ensures.ok) (c.if-not-is_first_lot.ensures.counted refl)
