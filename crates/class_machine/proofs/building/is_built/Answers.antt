use Rattle.std.proofs.Common.{◌∙◌, sym, subst}
use Rattle.class_soundness.specs.Soundness.{IsLoaded}
use Rattle.class_machine.specs.Lot.{IsBuilt}
use Rattle.class_machine.proofs.Buildable.{built}
use Rattle.class_machine.proofs.building.is_built.Goals as goal

pub returns : goal.returns
returns c e =
    subst IsBuilt c.in_ok-named.ensures (built c.in_ok-named.named (subst IsLoaded (sym c.in_ok-named.ensures) c.requires) (sym c.in_ok-built.ensures ∙ e))
