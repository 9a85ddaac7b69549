use Rattle.std.proofs.Common.{ℕ, List, sym, subst}
use Rattle.verifier.specs.Carrying.{IsUnset}
use Rattle.verifier_types.specs.Frames.{shown}
use Rattle.verifier.proofs.Leaving.{stepped_unset}
use Rattle.verifier.proofs.carried.Carried.step.Goals as goal

pub returns-clause-tracked : goal.returns-clause-tracked
returns-clause-tracked c none tracked =
    let before = c.args.self.now in
    let after = c.step.new.known in
    subst (λ (stored : List ℕ). IsUnset before.front stored after.locals) (sym c.in_ok-note_store.ensures)
    (stepped_unset c.args.set.now c.args.class.now c.args.method.now c.args.pc before.front before.stored.items c.args.row (shown before.known) (shown after) c.requires.lot (rw none at c.in_ok-step.ensures) tracked)
