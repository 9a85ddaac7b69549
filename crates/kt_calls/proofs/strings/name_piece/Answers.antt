use Rattle.std.proofs.lemmas.Result.{err_from_is_err_and}
use Rattle.kt_calls.proofs.StringRows.{name_from}
use Rattle.kt_calls.proofs.strings.name_piece.Goals as goal

pub returns-in_err-token : goal.returns-in_err-token
returns-in_err-token c = let p = err_from_is_err_and c.from_residual.result c.from_residual.ensures.1 in rw (p.1, p.2) c.in_err-token.ensures

pub returns : goal.returns
returns c = name_from c.in_ok-token.ensures c.word_of.ensures
