use Rattle.std.proofs.Common.{◌≡◌, ◌<◌, ◌^◌, length, true, sym, subst}
use Rattle.std.specs.Prelude.{All, IfOk}
use Rattle.class_file.specs.declared.class.Set.{Set}
use Rattle.class_machine.specs.Core.{first_core, NeverStuck}
use Rattle.class_machine.specs.Lot.{IsBuilt}
use Rattle.class_machine.proofs.Verifying.{never_stuck}
use Rattle.class_machine.proofs.machine.Machine.start_verified.Goals as goal

pub start-requires-clause-never : goal.start-requires-clause-never
start-requires-clause-never c =
    subst (λ (set : Set). NeverStuck set (first_core set)) (sym c.set-set.ensures.same)
    (never_stuck c.args.verified.now c.verified_is_never_stuck.ensures c.requires.built c.requires.loaded c.set-set.ensures.verifies)

pub start-requires-clause-built : goal.start-requires-clause-built
start-requires-clause-built c = subst IsBuilt (sym c.set-set.ensures.same) c.requires.built

pub start-requires-clause-codes : goal.start-requires-clause-codes
start-requires-clause-codes c =
    subst (λ (set : Set). All (λ c. All (λ m. length m.code < 2 ^ 28) c.methods) set.classes) (sym c.set-set.ensures.same) c.requires.codes

pub returns : goal.returns
returns c =
    subst (λ (set : Set). IfOk c.start.result (λ m. (m.set ≡ set) × (m.core ≡ first_core set) × (m.live ≡ true))) c.set-set.ensures.same c.start.ensures
