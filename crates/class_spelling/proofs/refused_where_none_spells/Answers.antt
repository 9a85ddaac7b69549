use Rattle.class_spelling.proofs.Corollaries.{refused_where_none_spells}
use Rattle.class_spelling.proofs.refused_where_none_spells.Goals as goal

pub returns : goal.returns
returns c = refused_where_none_spells
