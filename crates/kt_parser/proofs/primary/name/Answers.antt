use Rattle.std.proofs.lemmas.Result.{err_from_is_err_and}
use Rattle.kt_parser.proofs.PrimaryRows.{name_from}
use Rattle.kt_parser.proofs.primary.name.Goals as goal

pub returns-in_err-word : goal.returns-in_err-word
returns-in_err-word c = let p = err_from_is_err_and c.from_residual.result c.from_residual.ensures.1 in rw (p.1, p.2) (c.in_err-word.ensures)

pub returns : goal.returns
returns c = name_from c.in_ok-word.ensures c.named.ensures
