use Rattle.kt_derivations.proofs.Clear.{is_clear, is_decided}
use Rattle.kt_derivations.proofs.Forms.{tables}
use Rattle.kt_derivations.proofs.rows_are_clear.Goals as goal

pub returns : goal.returns
returns c = ((tables.empty, is_clear), is_decided)
