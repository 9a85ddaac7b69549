use Rattle.std.proofs.Common.{subst, ◌∙◌}
use Rattle.kc_text.specs.Modified.{AreUnits}
use Rattle.kc_text.proofs.Spelling.{one_text}
use Rattle.kc_text.proofs.texts.Text.to_modified.Goals as goal

pub returns-clause-only : goal.returns-clause-only
returns-clause-only c units all e =
    one_text units c.args.self.now all (subst AreUnits c.units.ensures c.in_ok-bytes.ensures.fits) (rw (← c.units.ensures) (e ∙ c.in_ok-bytes.ensures.bytes))
