use Rattle.std.proofs.Common.{◌∙◌, sym, subst}
use Rattle.class_soundness.specs.Soundness.{IsLoaded}
use Rattle.verifier.proofs.Wholes.{whole_set}
use Rattle.verifier.proofs.loading.is_loaded.Goals as goal

pub returns : goal.returns
returns c e =
    subst IsLoaded c.in_ok-named.ensures (whole_set c.in_ok-named.named c.as_slice.result.now c.whole_sets_are_loaded.ensures (sym c.in_ok-whole.ensures ∙ e))
