use Rattle.std.proofs.Common.{Bor, map}
use Rattle.class_file.specs.declared.class.VType.{VType}
use Rattle.class_file.specs.Verification.{spread}
use Rattle.verifier.proofs.Carries.{laid_unset}
use Rattle.verifier.proofs.carried.Carried.enter_given.Goals as goal

pub returns-clause-tracked : goal.returns-clause-tracked
returns-clause-tracked c =
    let whole = spread (map (λ (t : Bor VType). t.now) c.deref-2.result.now) in
    laid_unset c.args.max c.in_ok-front.front c.put_all.new.locals whole c.clear-2.new.self.items (c.in_ok-front.ensures c.args.max c.in_ok-locals.ensures)
