use Rattle.kc_core.specs.MeaningLaws.{meaning_lawful}
use Rattle.kc_core.proofs.meaning_is_lawful.Goals as goal

pub returns : goal.returns
returns c = meaning_lawful
